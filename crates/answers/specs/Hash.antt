-- The hash of what a run gives: 64-bit FNV-1a, a word at a time. Definitions only.
use Rattle.std.specs.Prelude.{ℕ, ◌*◌, ◌%◌, ◌^◌, bit_xor, List, fold, Float}
use Rattle.std.specs.Float.{binary32}
use Rattle.std.specs.Float.Ieee.{to_bits}

-- the hash of nothing
abbrev pub nothing : ℕ
nothing = 0xcbf2_9ce4_8422_2325

abbrev pub with_word : ℕ → ℕ → ℕ
with_word h word = bit_xor h word * 0x100000001b3 % 2 ^ 64

-- a float goes in by its pattern
abbrev pub with_float : ℕ → Float → ℕ
with_float h x = with_word h (to_bits binary32 x)

abbrev pub with_floats : ℕ → List Float → ℕ
with_floats h xs = fold with_float h xs
