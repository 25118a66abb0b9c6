-- `floats::split` meets its contract.
use mathlib.Core.Path.{◌≡◌, refl}
use mathlib.Core.Bool.{Bool, false, ◌&&◌}
use Prim.Native.Nat.{ℕ, ◌*◌, ◌/◌, ◌%◌}
use native.Mathlib.Omega.{arith}
use native.Mathlib.Nat.{mul-mod_left}
use lib.Dec.{eqb}
use lib.Ieee.{binary32, nan_bits}
use Rattle.floats.specs.Pattern.{split_of}
use Rattle.floats.proofs.Nan.{is_nan_lem, no_nan, no_nan_T, nan_is}
use Rattle.floats.proofs.Read.{bits_lt}
use Rattle.floats.proofs.pattern.split.Goals as goal

-- a pattern whose 23 low digits are 0 is no NaN's
clean : (k : ℕ) → nan_bits binary32 (k * 8388608) ≡ false
unfolding nan_bits
clean k = rw (mul-mod_left k 8388608) (and_false (eqb (k * 8388608 % 2147483648 / 8388608) 255))
  where
    and_false : (b : Bool) → (b && false) ≡ false
    and_false mathlib.Core.Bool.true = refl
    and_false mathlib.Core.Bool.false = refl

pub float_to_bits-biased : goal.float_to_bits-biased
float_to_bits-biased c = no_nan_T _ c.if-x.false

pub overflow_sub-scale : goal.overflow_sub-scale
overflow_sub-scale c = omega (arith, bits_lt _ c.well_formed.0.1)

pub float_from_bits-scale : goal.float_from_bits-scale
float_from_bits-scale c = rw clean tt

pub returns-then-x : goal.returns-then-x
unfolding split_of
returns-then-x c = rw (is_nan_lem _ c.if-x.true, nan_is)

pub returns-else-x : goal.returns-else-x
unfolding split_of
returns-else-x c = rw (no_nan _ c.if-x.false, c.nearest_u32.ensures)
