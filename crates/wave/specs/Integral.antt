-- The arms of `integral` of wave.rs: each curve's integral from 0 to x. `sk` are the sine's numbers. Definitions only.
use Rattle.std.specs.Prelude.{ℕ, List, [], ◌∷◌, Float}
use Rattle.std.specs.Float.Ieee as Ieee
use Rattle.floats.specs.F32.{◌⊕◌, ◌⊖◌, ◌⊗◌, ◌⊘◌, bits, 0f, 1f, 2f, 3f, 4f, 27f, ½f, ¼f, 1½f, tau}
use Rattle.floats.specs.Steps.{◌>>=◌}
use Rattle.floats.specs.Floor.{floor_of}
use Rattle.floats.specs.Sign.{abs_of}
use Rattle.floats.specs.Sqrt.{sqrt_of}
use Rattle.lanes.specs.Lane.{mul_add, min_of, max_of}
use Rattle.lanes.specs.Maths.{cos_cycles, exp_of, ln_of, ln_cosh}
use Rattle.modes.specs.Mode.{number_of, Valve, SoftClip, HardClip, Diode1, Diode2, Fold, SineFold, ZeroSquare, Asymmetric, Rectify, SineShaper, Pedal, Tape, SoftSaturate}
use Rattle.modes.specs.Choice.{◌⇒◌, case_of}
use Rattle.wave.specs.Filter.{pi}
use Rattle.wave.specs.Curve.{valve_tanh_bias, valve_bias, valve_scale, within, frac_pi2}

-- VALVE_LN_COSH_BIAS: 0.0309298
abbrev pub valve_ln_cosh_bias : Float
valve_ln_cosh_bias = bits 0x3cfd_607e

-- |knee| x.abs() - knee.abs()
unfoldable pub beyond_of : Float → Float → Float
beyond_of x knee = do
  a ← abs_of x
  k ← abs_of knee
  a ⊖ k

-- (ln_cosh(x + VALVE_BIAS) - VALVE_LN_COSH_BIAS - VALVE_TANH_BIAS * x) * ..
unfoldable pub valve_integral : Float → Float
valve_integral x = do
  l ← ln_cosh (x ⊕ valve_bias)
  (l ⊖ valve_ln_cosh_bias ⊖ valve_tanh_bias ⊗ x) ⊗ valve_scale

unfoldable pub soft_clip_integral : Float → Float
soft_clip_integral x = do
  z ← within 1½f x
  z2 ← z ⊗ z
  past ← beyond_of x z
  z2 ⊗ ½f ⊖ z2 ⊗ z2 ⊗ (1f ⊘ 27f) ⊕ past

unfoldable pub hard_clip_integral : Float → Float
hard_clip_integral x = do
  z ← within 1f x
  past ← beyond_of x z
  z ⊗ z ⊗ ½f ⊕ past

-- (positive + exp(-positive) - one) + (4.0 * exp(negative * 0.5) - 2.0 * negative - 4.0)
unfoldable pub diode1_integral : Float → Float
diode1_integral x = do
  positive ← max_of x 0f
  negative ← min_of x 0f
  p ← exp_of (Ieee.neg positive)
  n ← exp_of (negative ⊗ ½f)
  (positive ⊕ p ⊖ 1f) ⊕ (4f ⊗ n ⊖ 2f ⊗ negative ⊖ 4f)

unfoldable pub diode2_integral : Float → Float
diode2_integral x = do
  a ← abs_of x
  e ← exp_of (Ieee.neg a)
  a ⊕ e ⊖ 1f

unfoldable pub fold_integral : Float → Float
fold_integral x = do
  t ← (x ⊕ 1f) ⊗ ¼f
  whole ← floor_of t
  s ← 2f ⊗ (t ⊖ whole) ⊖ 1f
  a ← abs_of s
  2f ⊗ s ⊗ (1f ⊖ a) ⊕ ½f

unfoldable pub sine_fold_integral : List Float → Float → Float
sine_fold_integral sk x = do
  k ← cos_cycles sk (x ⊗ ¼f)
  (1f ⊖ k) ⊗ (2f ⊘ pi)

-- a * a * a * (1.0 / 3.0) + beyond(z)
unfoldable pub zero_square_integral : Float → Float
zero_square_integral x = do
  z ← within 1f x
  a ← abs_of z
  past ← beyond_of x z
  a ⊗ a ⊗ a ⊗ (1f ⊘ 3f) ⊕ past

unfoldable pub asymmetric_integral : Float → Float
asymmetric_integral x = do
  positive ← max_of x 0f
  negative ← min_of x 0f
  p ← ln_cosh (positive ⊗ 2f)
  n ← ln_cosh (negative ⊗ ½f)
  p ⊗ ¼f ⊕ n ⊗ 4f

unfoldable pub rectify_integral : Float → Float
rectify_integral x = do
  a ← abs_of x
  x ⊗ a ⊗ ½f

unfoldable pub sine_shaper_integral : List Float → Float → Float
sine_shaper_integral sk x = do
  z ← within frac_pi2 x
  k ← cos_cycles sk (z ⊗ (1f ⊘ tau))
  past ← beyond_of x z
  1f ⊖ k ⊕ past

-- clipped * clipped * 0.5 + (positive - clipped) + negative.mul_add(negative, one).sqrt() - one
unfoldable pub pedal_integral : Float → Float
pedal_integral x = do
  positive ← max_of x 0f
  clipped ← min_of positive 1f
  negative ← min_of x 0f
  root ← sqrt_of (mul_add negative negative 1f)
  clipped ⊗ clipped ⊗ ½f ⊕ (positive ⊖ clipped) ⊕ root ⊖ 1f

unfoldable pub tape_integral : Float → Float
tape_integral x = do
  root ← sqrt_of (mul_add x x 1f)
  root ⊖ 1f

unfoldable pub soft_saturate_integral : Float → Float
soft_saturate_integral x = do
  a ← abs_of x
  l ← ln_of (1f ⊕ a)
  a ⊖ l

-- every other mode's is the integral of x
unfoldable pub integral_of : List Float → ℕ → Float → Float
integral_of sk mode x =
    case_of mode
    ((number_of Valve ⇒ valve_integral x) ∷
    (number_of SoftClip ⇒ soft_clip_integral x) ∷
    (number_of HardClip ⇒ hard_clip_integral x) ∷
    (number_of Diode1 ⇒ diode1_integral x) ∷
    (number_of Diode2 ⇒ diode2_integral x) ∷
    (number_of Fold ⇒ fold_integral x) ∷
    (number_of SineFold ⇒ sine_fold_integral sk x) ∷
    (number_of ZeroSquare ⇒ zero_square_integral x) ∷
    (number_of Asymmetric ⇒ asymmetric_integral x) ∷
    (number_of Rectify ⇒ rectify_integral x) ∷
    (number_of SineShaper ⇒ sine_shaper_integral sk x) ∷
    (number_of Pedal ⇒ pedal_integral x) ∷
    (number_of Tape ⇒ tape_integral x) ∷
    (number_of SoftSaturate ⇒ soft_saturate_integral x) ∷
    [])
    (x ⊗ x ⊗ ½f)
