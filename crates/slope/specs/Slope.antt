-- `stretch` of phase.rs: how much faster than its phase a map reads at most. `a` is the amount, 0 to 1, and `curve` the steepest slope of the
-- lent curve. Definitions only.
use Rattle.std.specs.Prelude.{ℕ, cond, [], ◌∷◌, Float}
use Rattle.floats.specs.F32.{◌⊕◌, ◌⊖◌, ◌⊗◌, ◌⊘◌, 0f, 1f, 2f, 4f, ½f}
use Rattle.floats.specs.Steps.{◌>>=◌}
use Rattle.floats.specs.Sign.{abs_of}
use Rattle.floats.specs.Sqrt.{sqrt_of}
use Rattle.floats.specs.Exp2.{exp2_of}
use Rattle.lanes.specs.Maths.{clamp_of}
use Rattle.modes.specs.Mode.{number_of, Sync, PinchIn, PinchOut, Pinch, PulseWidth, LeanRight, LeanLeft, Lean, Mirror, RemapDrawn, RemapMirrored, RemapSine, RemapQuad}
use Rattle.modes.specs.Choice.{◌⇒◌, case_of}
use Rattle.limits.specs.declared.answers.Value.{Value}
use Rattle.limits.specs.Lines.{bad_mode}
use Rattle.slope.specs.Strengths.{lean_max, pulse_max, pinch_strength, lean_strength}

-- (b * b + 2.0 + b * (b * b + 4.0).sqrt()) * 0.5
unfoldable pub lean_steepest : Float → Float
lean_steepest beta = do
  b ← abs_of beta
  root ← sqrt_of (b ⊗ b ⊕ 4f)
  (b ⊗ b ⊕ 2f ⊕ b ⊗ root) ⊗ ½f

unfoldable pub pinch_slope : ℕ → Float → Float
pinch_slope mode a = do
  strength ← pinch_strength mode a
  s ← abs_of strength
  (1f ⊕ s) ⊘ (1f ⊖ s)

unfoldable pub lean_slope : ℕ → Float → Float
lean_slope mode a = do
  beta ← lean_strength mode a
  lean_steepest beta

-- Added: `powf` of SYNC_MAX_RATIO is exp2(4a)
unfoldable pub slope_of : ℕ → Float → Float → Float
slope_of mode a curve =
    case_of mode
    ((number_of Sync ⇒ exp2_of (4f ⊗ a)) ∷
    (number_of PinchIn ⇒ pinch_slope mode a) ∷
    (number_of PinchOut ⇒ pinch_slope mode a) ∷
    (number_of Pinch ⇒ pinch_slope mode a) ∷
    (number_of PulseWidth ⇒ 1f ⊘ (1f ⊖ a ⊗ pulse_max)) ∷
    (number_of LeanRight ⇒ lean_slope mode a) ∷
    (number_of LeanLeft ⇒ lean_slope mode a) ∷
    (number_of Lean ⇒ lean_slope mode a) ∷
    (number_of Mirror ⇒ lean_steepest (a ⊗ lean_max)) ∷
    (number_of RemapDrawn ⇒ 1f ⊕ a ⊗ (curve ⊖ 1f)) ∷
    (number_of RemapMirrored ⇒ 1f ⊕ a ⊗ (curve ⊖ 1f)) ∷
    (number_of RemapSine ⇒ 1f ⊕ a) ∷
    (number_of RemapQuad ⇒ 1f ⊕ a ⊗ (curve ⊖ 1f)) ∷
    [])
    1f

unfoldable pub stretch_of : ℕ → Float → Float → Float
stretch_of mode amount curve = do
  a ← clamp_of amount 0f 1f
  slope_of mode a curve

-- a mode above 69: number 1, value 0
unfoldable pub stretch_answer : ℕ → Float → Float → Value
stretch_answer mode amount curve = cond (bad_mode mode) (record { number = 1; value = 0f }) (record { number = 0; value = stretch_of mode amount curve })
