-- The strengths of phase.rs's maps. `a` is the amount, 0 to 1. Definitions only.
use Rattle.std.specs.Prelude.{ℕ, [], ◌∷◌, Float}
use Rattle.std.specs.Float.Ieee as Ieee
use Rattle.floats.specs.F32.{◌⊖◌, ◌⊗◌, bits, 1f, 2f}
use Rattle.modes.specs.Mode.{number_of, PinchIn, PinchOut, LeanRight, LeanLeft}
use Rattle.modes.specs.Choice.{◌⇒◌, case_of}

-- PINCH_MAX, 0.8, LEAN_MAX, 1.8, and PULSE_MAX, 0.95
abbrev pub pinch_max : Float
pinch_max = bits 0x3f4c_cccd

abbrev pub lean_max : Float
lean_max = bits 0x3fe6_6666

abbrev pub pulse_max : Float
pulse_max = bits 0x3f73_3333

unfoldable pub pinch_strength : ℕ → Float → Float
pinch_strength mode a =
    case_of mode
    ((number_of PinchIn ⇒ a ⊗ pinch_max) ∷ (number_of PinchOut ⇒ Ieee.neg a ⊗ pinch_max) ∷ [])
    ((a ⊗ 2f ⊖ 1f) ⊗ pinch_max)

unfoldable pub lean_strength : ℕ → Float → Float
lean_strength mode a =
    case_of mode
    ((number_of LeanRight ⇒ Ieee.neg a ⊗ lean_max) ∷ (number_of LeanLeft ⇒ a ⊗ lean_max) ∷ [])
    ((1f ⊖ a ⊗ 2f) ⊗ lean_max)
