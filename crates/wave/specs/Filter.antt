-- The filters of wave.rs. `sk` are the sine's numbers, `a` is the amount, 0 to 1. Definitions only.
use Rattle.std.specs.Prelude.{ℕ, List, [], ◌∷◌, Float}
use Rattle.std.specs.Float.Ieee as Ieee
use Rattle.floats.specs.F32.{◌⊕◌, ◌⊖◌, ◌⊗◌, ◌⊘◌, bits, 0f, 1f, 2f, 11f, 12f}
use Rattle.floats.specs.Steps.{◌>>=◌}
use Rattle.floats.specs.Exp2.{exp2_of}
use Rattle.lanes.specs.Lane.{mul_add, min_of}
use Rattle.lanes.specs.Maths.{clamp_of, tan_of}
use Rattle.modes.specs.Mode.{number_of, LowPass}
use Rattle.modes.specs.Choice.{◌⇒◌, case_of}
use Rattle.wave.specs.declared.filters.Svf.{Svf}
use Rattle.wave.specs.declared.filters.Filtered.{Filtered}

-- PI: 3.1415927
abbrev pub pi : Float
pi = bits 0x4049_0fdb

-- SQRT_2: 1.4142135
abbrev pub sqrt2 : Float
sqrt2 = bits 0x3fb5_04f3

-- 1.2: how far `character` takes the damping down
abbrev pub damping_span : Float
damping_span = bits 0x3f99_999a

-- 0.45: the highest cutoff, in cycles a sample
abbrev pub cutoff_max : Float
cutoff_max = bits 0x3ee6_6666

-- the cutoff, as a harmonic of the note: ((1.0 - a) * 11.0).exp2(), a.mul_add(12.0, -2.0).exp2()
unfoldable pub cutoff_harmonic : ℕ → Float → Float
cutoff_harmonic mode a =
    case_of mode
    ((number_of LowPass ⇒ exp2_of ((1f ⊖ a) ⊗ 11f)) ∷ [])
    (exp2_of (mul_add a 12f (Ieee.neg 2f)))

-- SQRT_2 - 1.2 * character.clamp(0.0, 1.0)
unfoldable pub damping_of : Float → Float
damping_of character = do
  kept ← clamp_of character 0f 1f
  sqrt2 ⊖ damping_span ⊗ kept

-- the tangent of the cutoff's angle: what of a filter goes by no sample; the increment is what the note's phase moves by, in cycles a sample
unfoldable pub tangent_of : List Float → Float → Float → Float
tangent_of sk harmonic increment = do
  cutoff ← min_of (harmonic ⊗ increment) cutoff_max
  tan_of sk (cutoff ⊗ pi)

-- the rest of it, from the tangent g on; k is the damping
unfoldable pub filter_with : ℕ → Float → Float → Float → Svf → Filtered
filter_with mode g k x state = do
  a1 ← 1f ⊘ mul_add g (g ⊕ k) 1f
  a2 ← g ⊗ a1
  a3 ← g ⊗ a2
  v3 ← x ⊖ state.ic2
  v1 ← mul_add a1 state.ic1 (a2 ⊗ v3)
  v2 ← state.ic2 ⊕ mul_add a2 state.ic1 (a3 ⊗ v3)
  y ← case_of mode ((number_of LowPass ⇒ v2) ∷ []) (x ⊖ k ⊗ v1 ⊖ v2)
  record { y = y; state = record { ic1 = 2f ⊗ v1 ⊖ state.ic1; ic2 = 2f ⊗ v2 ⊖ state.ic2 } }

unfoldable pub filter_of : List Float → ℕ → Float → Float → Float → Float → Svf → Filtered
filter_of sk mode harmonic increment k x state = do
  g ← tangent_of sk harmonic increment
  filter_with mode g k x state
