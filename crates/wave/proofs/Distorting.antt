-- `distort` of Rectify, and of any other mode by its drive. Assumes nothing.
use mathlib.Core.Path.{◌≡◌}
use mathlib.Core.List.{List}
use Prim.Native.Nat.{ℕ}
use lib.Ieee.{Float}
use Rattle.floats.specs.F32.{◌⊗◌}
use Rattle.floats.specs.Steps.{◌>>=◌}
use Rattle.modes.specs.Choice.{case_of}
use Rattle.modes.proofs.Choice.{miss}
use Rattle.wave.specs.Curve.{curve_of}
use Rattle.wave.specs.Smooth.{drive_of, rectified, curved, distort_of}

module _ (sk : List Float) (mode : ℕ) (a x : Float) where
  pub distort_rectified : mode ≡ 28 → rectified a x ≡ distort_of sk mode a x
  unfolding distort_of case_of
  distort_rectified e = rw e

  pub distort_curved : (mode ≡ 28 → ⊥) → curve_of sk mode (x ⊗ drive_of mode a) ≡ distort_of sk mode a x
  unfolding distort_of curved ◌>>=◌
  distort_curved other = miss (Unit {0}) _ mode _ (tt, other)
