-- `impl Lane for f32` of lanes.rs. `sqrt`, `floor`, `abs`, `sign_bit`, `exp2` and `split` are crate floats' `sqrt_of`, `floor_of`,
-- `abs_of`, `sign_bit`, `exp2_of` and `split_of`; the functions on phase words are in Word.antt. Definitions only.
use Rattle.std.specs.Prelude.{Bool, cond, Float}
use Rattle.std.specs.Float.Ieee as Ieee
use Rattle.floats.specs.F32.{◌⊕◌, ◌⊗◌, 0f}

-- self * mul + add, unfused
abbrev pub mul_add : Float → Float → Float → Float
mul_add x m a = x ⊗ m ⊕ a

-- if other < self { other } else { self }
unfoldable pub min_of : Float → Float → Float
min_of x other = cond (Ieee.lt other x) other x

-- if other > self { other } else { self }
unfoldable pub max_of : Float → Float → Float
max_of x other = cond (Ieee.lt x other) other x

-- self != 0.0
abbrev pub any_of : Float → Bool
any_of x = Ieee.ne x 0f
