-- The drive, `distort` and `distort_smooth` of wave.rs. `sk` are the sine's numbers, `a` is the amount, 0 to 1, x the sample. Definitions only.
use Rattle.std.specs.Prelude.{ℕ, List, [], ◌∷◌, Float}
use Rattle.floats.specs.F32.{◌⊕◌, ◌⊖◌, ◌⊗◌, ◌⊘◌, bits, 1f, 18f, 30f, ½f, hundredth}
use Rattle.floats.specs.Steps.{◌>>=◌}
use Rattle.floats.specs.Sign.{abs_of}
use Rattle.floats.specs.Exp2.{exp2_of}
use Rattle.lanes.specs.Lane.{mul_add, max_of}
use Rattle.lanes.specs.Maths.{above_of, pick_of}
use Rattle.modes.specs.Mode.{number_of, Fold, SineFold, Rectify}
use Rattle.modes.specs.Choice.{◌⇒◌, case_of}
use Rattle.wave.specs.declared.filters.Svf.{Svf}
use Rattle.wave.specs.declared.filters.Filtered.{Filtered}
use Rattle.wave.specs.Curve.{curve_of}
use Rattle.wave.specs.Integral.{integral_of}

-- the most decibels of drive: FOLD_DRIVE_MAX_DB, 18, and DRIVE_MAX_DB, 30
unfoldable pub most_of : ℕ → Float
most_of mode =
    case_of mode
    ((number_of Fold ⇒ 18f) ∷ (number_of SineFold ⇒ 18f) ∷ [])
    30f

-- 6.0206: the decibels of a factor of 2
abbrev pub octave_db : Float
octave_db = bits 0x40c0_a8c1

-- (a * (most / 6.020_6)).exp2()
unfoldable pub drive_of : ℕ → Float → Float
drive_of mode a = do
  most ← most_of mode
  exp2_of (a ⊗ (most ⊘ octave_db))

-- the drive of a slot's setting: Rectify is not driven
unfoldable pub gain_of : ℕ → Float → Float
gain_of mode a = case_of mode ((number_of Rectify ⇒ 1f) ∷ []) (drive_of mode a)

-- (x.abs() - x).mul_add(a, x)
unfoldable pub rectified : Float → Float → Float
rectified a x = do
  size ← abs_of x
  mul_add (size ⊖ x) a x

-- curve(mode, x * drive(mode, a))
unfoldable pub curved : List Float → ℕ → Float → Float → Float
curved sk mode a x = do
  drive ← drive_of mode a
  curve_of sk mode (x ⊗ drive)

unfoldable pub distort_of : List Float → ℕ → Float → Float → Float
distort_of sk mode a x = case_of mode ((number_of Rectify ⇒ rectified a x) ∷ []) (curved sk mode a x)

-- if mode == Mode::Rectify { x } else { x * drive(mode, a) }
unfoldable pub driven_of : ℕ → Float → Float → Float
driven_of mode a x = case_of mode ((number_of Rectify ⇒ x) ∷ []) (x ⊗ drive_of mode a)

-- 1 where two driven samples lie far enough apart to divide by their step, else 0: above(step.abs() - scale * 1e-2)
unfoldable pub apart_of : Float → Float → Float
apart_of driven last = do
  step ← driven ⊖ last
  size ← abs_of driven
  lastSize ← abs_of last
  larger ← max_of size lastSize
  scale ← max_of larger 1f
  far ← abs_of step
  above_of (far ⊖ scale ⊗ hundredth)

-- (y - linear).mul_add(a, linear)
unfoldable pub blend_of : ℕ → Float → Float → Float → Float → Float
blend_of mode a x last y = do
  linear ← (x ⊕ last) ⊗ ½f
  case_of mode ((number_of Rectify ⇒ mul_add (y ⊖ linear) a linear) ∷ []) y

-- `distort_smooth` from the driven input on: the curve's mean from the last driven sample to this one, by its integral, or its value half way.
-- The state is the last driven sample and the integral there
unfoldable pub smooth_of : List Float → ℕ → Float → Float → Float → Svf → Filtered
smooth_of sk mode a driven x state = do
  area ← integral_of sk mode driven
  last ← state.ic1
  step ← driven ⊖ last
  apart ← apart_of driven last
  divisor ← pick_of apart 1f step
  mean ← (area ⊖ state.ic2) ⊘ divisor
  midpoint ← curve_of sk mode ((driven ⊕ last) ⊗ ½f)
  y ← pick_of apart midpoint mean
  blended ← blend_of mode a x last y
  record { y = blended; state = record { ic1 = driven; ic2 = area } }

unfoldable pub distort_smooth : List Float → ℕ → Float → Float → Svf → Filtered
distort_smooth sk mode a x state = do
  driven ← driven_of mode a x
  smooth_of sk mode a driven x state
