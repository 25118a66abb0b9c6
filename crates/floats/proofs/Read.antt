-- What owning an f32 tells, and what that makes of its pattern: x is what is read from its own pattern. Assumes nothing.
use mathlib.Core.Path.{◌≡◌, sym, subst}
use mathlib.Core.Bool.{true, false}
use Prim.Native.Nat.{ℕ, ◌<◌}
use lib.Dec.{T}
use lib.Ieee.{Float, binary32, fits, of_bits, to_bits, is_nan, ne}
use lib.Ieee.Bits.{of_bits-to_bits, to_bits-lt}
use Rattle.floats.proofs.Nan.{no_nan}

abbrev pub bits_of : Float → ℕ
bits_of x = to_bits binary32 x

-- `good` is `c.good.0.1` of a function's first parameter, `c.good.1.0.1` of its second
module _ (x : Float) (good : fits binary32 x ≡ true) where
  pub held : T (fits binary32 x)
  held = subst T (sym good) tt

  pub read : of_bits binary32 (bits_of x) ≡ x
  read = of_bits-to_bits binary32 x held

  pub bits_lt : bits_of x < 4294967296
  bits_lt = to_bits-lt binary32 x held

  pub read_no_nan : ne x x ≡ false → is_nan (of_bits binary32 (bits_of x)) ≡ false
  read_no_nan h = subst (λ (y : Float). is_nan y ≡ false) (sym read) (no_nan x h)
