-- What of a slot's map goes by its mode and its amount `a`, 0 to 1, alone. Definitions only.
use Rattle.std.specs.Prelude.{ℕ, [], ◌∷◌, Float}
use Rattle.floats.specs.F32.{◌⊖◌, ◌⊗◌, 1f, 2f, 4f, 10f}
use Rattle.floats.specs.Exp2.{exp2_of}
use Rattle.modes.specs.Mode.{number_of, Sync, Quantise}
use Rattle.modes.specs.Choice.{◌⇒◌, case_of}

-- Sync's ratio; 4 is SYNC_MAX_RATIO.log2()
unfoldable pub ratio_of : Float → Float
ratio_of a = exp2_of (a ⊗ 4f)

-- how many steps a cycle has under Quantise; 10 is (QUANTISE_MAX_STEPS / QUANTISE_MIN_STEPS).log2(), 2 is QUANTISE_MIN_STEPS
unfoldable pub step_count : Float → Float
step_count a = exp2_of ((1f ⊖ a) ⊗ 10f) ⊗ 2f

-- 1 for a mode whose map has no power
unfoldable pub map_power : ℕ → Float → Float
map_power mode a = case_of mode ((number_of Sync ⇒ ratio_of a) ∷ (number_of Quantise ⇒ step_count a) ∷ []) 1f
