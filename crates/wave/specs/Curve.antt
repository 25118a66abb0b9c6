-- The arms of `curve` of wave.rs, at the driven sample x. `sk` are the sine's numbers. Definitions only.
use Rattle.std.specs.Prelude.{ℕ, List, [], ◌∷◌, length, get_or, Float}
use Rattle.std.specs.Float.Ieee as Ieee
use Rattle.std.specs.Float.{nan}
use Rattle.floats.specs.F32.{◌⊕◌, ◌⊖◌, ◌⊗◌, ◌⊘◌, bits, 0f, 1f, 2f, 4f, 27f, ½f, ¼f, 1½f, tau}
use Rattle.floats.specs.Steps.{◌>>=◌}
use Rattle.floats.specs.Floor.{floor_of}
use Rattle.floats.specs.Sign.{abs_of}
use Rattle.floats.specs.Sqrt.{sqrt_of}
use Rattle.grid.specs.Functions.{table}
use Rattle.lanes.specs.Lane.{mul_add, min_of, max_of}
use Rattle.lanes.specs.Maths.{sign_of, clamp_of, sin_cycles, tanh_of, exp_of}
use Rattle.modes.specs.Mode.{number_of, Valve, SoftClip, HardClip, Diode1, Diode2, Fold, SineFold, ZeroSquare, Asymmetric, Rectify, SineShaper, Pedal, Tape, SoftSaturate}
use Rattle.modes.specs.Choice.{◌⇒◌, case_of}

-- VALVE_TANH_BIAS, 0.24491866, and VALVE_BIAS, 0.25
abbrev pub valve_tanh_bias : Float
valve_tanh_bias = bits 0x3e7a_cbf5

abbrev pub valve_bias : Float
valve_bias = ¼f

-- 1.0 / (1.0 - VALVE_TANH_BIAS * VALVE_TANH_BIAS)
abbrev pub valve_scale : Float
valve_scale = 1f ⊘ (1f ⊖ valve_tanh_bias ⊗ valve_tanh_bias)

-- `x` clamped to ±knee
abbrev pub within : Float → Float → Float
within knee x = clamp_of x (Ieee.neg knee) knee

-- FRAC_PI_2: 1.5707964
abbrev pub frac_pi2 : Float
frac_pi2 = bits 0x3fc9_0fdb

unfoldable pub valve_curve : Float → Float
valve_curve x = do
  t ← tanh_of (x ⊕ valve_bias)
  (t ⊖ valve_tanh_bias) ⊗ valve_scale

unfoldable pub soft_clip_curve : Float → Float
soft_clip_curve x = do
  z ← within 1½f x
  z ⊖ z ⊗ z ⊗ z ⊗ (4f ⊘ 27f)

unfoldable pub hard_clip_curve : Float → Float
hard_clip_curve x = within 1f x

-- (one - exp(-positive)) - 2.0 * (one - exp(negative * 0.5))
unfoldable pub diode1_curve : Float → Float
diode1_curve x = do
  positive ← max_of x 0f
  negative ← min_of x 0f
  p ← exp_of (Ieee.neg positive)
  n ← exp_of (negative ⊗ ½f)
  (1f ⊖ p) ⊖ 2f ⊗ (1f ⊖ n)

-- sign(x) * (one - exp(-x.abs()))
unfoldable pub diode2_curve : Float → Float
diode2_curve x = do
  s ← sign_of x
  a ← abs_of x
  e ← exp_of (Ieee.neg a)
  s ⊗ (1f ⊖ e)

-- one - (4.0 * (t - t.floor()) - 2.0).abs()
unfoldable pub fold_curve : Float → Float
fold_curve x = do
  t ← (x ⊕ 1f) ⊗ ¼f
  whole ← floor_of t
  a ← abs_of (4f ⊗ (t ⊖ whole) ⊖ 2f)
  1f ⊖ a

unfoldable pub sine_fold_curve : List Float → Float → Float
sine_fold_curve sk x = sin_cycles sk (x ⊗ ¼f)

unfoldable pub zero_square_curve : Float → Float
zero_square_curve x = do
  a ← abs_of x
  within 1f (x ⊗ a)

unfoldable pub asymmetric_curve : Float → Float
asymmetric_curve x = do
  positive ← max_of x 0f
  negative ← min_of x 0f
  p ← tanh_of (positive ⊗ 2f)
  n ← tanh_of (negative ⊗ ½f)
  p ⊗ ½f ⊕ n ⊗ 2f

unfoldable pub rectify_curve : Float → Float
rectify_curve x = abs_of x

unfoldable pub sine_shaper_curve : List Float → Float → Float
sine_shaper_curve sk x = do
  z ← within frac_pi2 x
  sin_cycles sk (z ⊗ (1f ⊘ tau))

-- x.max(0.0).min(one) + negative / negative.mul_add(negative, one).sqrt()
unfoldable pub pedal_curve : Float → Float
pedal_curve x = do
  negative ← min_of x 0f
  positive ← max_of x 0f
  clipped ← min_of positive 1f
  root ← sqrt_of (mul_add negative negative 1f)
  clipped ⊕ negative ⊘ root

unfoldable pub tape_curve : Float → Float
tape_curve x = do
  root ← sqrt_of (mul_add x x 1f)
  x ⊘ root

unfoldable pub soft_saturate_curve : Float → Float
soft_saturate_curve x = do
  a ← abs_of x
  x ⊘ (1f ⊕ a)

-- every other mode keeps x
unfoldable pub curve_of : List Float → ℕ → Float → Float
curve_of sk mode x =
    case_of mode
    ((number_of Valve ⇒ valve_curve x) ∷
    (number_of SoftClip ⇒ soft_clip_curve x) ∷
    (number_of HardClip ⇒ hard_clip_curve x) ∷
    (number_of Diode1 ⇒ diode1_curve x) ∷
    (number_of Diode2 ⇒ diode2_curve x) ∷
    (number_of Fold ⇒ fold_curve x) ∷
    (number_of SineFold ⇒ sine_fold_curve sk x) ∷
    (number_of ZeroSquare ⇒ zero_square_curve x) ∷
    (number_of Asymmetric ⇒ asymmetric_curve x) ∷
    (number_of Rectify ⇒ rectify_curve x) ∷
    (number_of SineShaper ⇒ sine_shaper_curve sk x) ∷
    (number_of Pedal ⇒ pedal_curve x) ∷
    (number_of Tape ⇒ tape_curve x) ∷
    (number_of SoftSaturate ⇒ soft_saturate_curve x) ∷
    [])
    x

-- the curve of every number, each times `by` first
unfoldable pub curves_of : List Float → ℕ → Float → List Float → List Float
curves_of sk mode by xs = table (length xs) (λ i. curve_of sk mode (get_or xs i nan ⊗ by))
