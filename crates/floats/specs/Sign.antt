-- The sign of an f32. Definitions only.
use Rattle.std.specs.Prelude.{false, cond, Float}
use Rattle.std.specs.Float.{nan, inf, fin}
use Rattle.floats.specs.F32.{0f, 1f}

-- the magnitude: the same value with its sign clear
unfoldable pub abs_of : Float → Float
abs_of nan = nan
abs_of (inf s) = inf false
abs_of (fin s m e) = fin false m e

-- (self.to_bits() >> 31) as f32: 1 where the sign bit is set, else 0. Added: of a NaN it is 0
unfoldable pub sign_bit : Float → Float
sign_bit nan = 0f
sign_bit (inf s) = cond s 1f 0f
sign_bit (fin s m e) = cond s 1f 0f
