-- Rust's `as` between floats and integers, where the library has no name for it. `Ieee.to_unsigned 64 x` is `x as usize`,
-- `Ieee.of_int binary32 (pos n)` is `n as f32`. Definitions only.
use Rattle.std.specs.Prelude.{ℕ, suc, ◌-◌, ◌^◌, cond, ℤ, pos, negsuc, ltb, Float}
use Rattle.std.specs.Float.Ieee as Ieee
use Rattle.std.specs.Float.Ieee.{minus}

-- `word as i32`: from 2 ^ 31 on it is the word less 2 ^ 32
unfoldable pub as_signed : ℕ → ℤ
as_signed word = cond (ltb word (2 ^ 31)) (pos word) (minus word (2 ^ 32))

-- `z as u32`
unfoldable pub as_word : ℤ → ℕ
as_word (pos n) = n
as_word (negsuc n) = 2 ^ 32 - suc n

-- `x as i32 as u32`: toward zero, to the nearest end of the range where it is out of it, and 0 for a NaN
unfoldable pub cast_word : Float → ℕ
cast_word x = as_word (Ieee.to_signed 31 x)
