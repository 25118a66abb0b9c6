-- What a slot does to one sample, `shape_of` of mod.rs for one slot: its setting, and the sample shaped by it. `sk` are the sine's numbers, `a` is
-- the slot's amount, 0 to 1, and s its source's value. Definitions only.
use Rattle.std.specs.Prelude.{ℕ, Bool, true, false, not, ◌&&◌, List, [], ◌∷◌, Float, Option, Some, None, Result, Ok, Err}
use Rattle.floats.specs.F32.{◌⊕◌, ◌⊖◌, ◌⊗◌, 1f, ½f}
use Rattle.floats.specs.Steps.{◌>>=◌, when◌then◌else◌}
use Rattle.modes.specs.Mode.{number_of, LowPass, HighPass}
use Rattle.modes.specs.Choice.{◌⇒◌, case_of}
use Rattle.limits.specs.declared.refusal.Refusal.{Refusal}
use Rattle.modes.specs.declared.facts.Modulated.{Modulated}
use Rattle.modes.specs.declared.facts.Modulated.TheVariants.{Fm, PhaseDistortion, Am, Ring}
use Rattle.modes.specs.declared.facts.Stage.{Stage}
use Rattle.modes.specs.Stage.{is_wave}
use Rattle.modes.specs.Table.{stage_of, modulated_of}
use Rattle.wave.specs.declared.filters.Svf.{Svf}
use Rattle.wave.specs.declared.filters.Filtered.{Filtered}
use Rattle.wave.specs.declared.slots.Setting.{Setting}
use Rattle.wave.specs.Filter.{cutoff_harmonic, damping_of, filter_of}
use Rattle.wave.specs.Smooth.{gain_of, smooth_of}

abbrev pub says_wave : Result Stage Refusal → Bool
says_wave (Ok s) = is_wave s
says_wave (Err _) = false

abbrev pub says_modulated : Result (Option Modulated) Refusal → Bool
says_modulated (Ok (Some m)) = true
says_modulated (Ok None) = false
says_modulated (Err _) = false

-- self.on[slot]
unfoldable pub in_wave : ℕ → Bool
in_wave mode = says_wave (stage_of mode)

-- mode.filter()
unfoldable pub is_filter : ℕ → Bool
is_filter mode = case_of mode ((number_of LowPass ⇒ true) ∷ (number_of HighPass ⇒ true) ∷ []) false

-- self.modulated[slot]
unfoldable pub is_modulated : ℕ → Bool
is_modulated mode = says_modulated (modulated_of mode)

-- of the modes in the wave stage, those that keep no state
unfoldable pub is_level : ℕ → Bool
is_level mode = not (is_filter mode) && is_modulated mode

-- Filter(cutoff_harmonic(mode, a), damping(character))
unfoldable pub filter_setting : ℕ → Float → Float → Setting
filter_setting mode a character = do
  harmonic ← cutoff_harmonic mode a
  k ← damping_of character
  Setting.Filter harmonic k

unfoldable pub curve_setting : ℕ → Float → Setting
curve_setting mode a = do
  drive ← gain_of mode a
  Setting.Curve a drive

-- let Some(source) = self.sources[slot] else { continue }
abbrev pub level_setting : Float → Option Float → Option Setting
level_setting a None = None
level_setting a (Some source) = Some (Setting.Level a source)

-- if mode.filter() {..} else if self.modulated[slot] {..} else {..}
abbrev pub wave_setting : ℕ → Float → Float → Option Float → Option Setting
wave_setting mode a character source = when is_filter mode then Some (filter_setting mode a character) else (when is_modulated mode then level_setting a source else Some (curve_setting mode a))

-- the slot's setting; `source` is what it hears, if it has a source
unfoldable pub setting_of : ℕ → Float → Float → Option Float → Option Setting
setting_of mode a character source = when in_wave mode then wave_setting mode a character source else None

-- what of a slot's setting goes by its mode and its amount alone: a filter's harmonic, a curve's drive; 1 for AM and Ring
unfoldable pub wave_power : ℕ → Float → Float
wave_power mode a = when is_filter mode then cutoff_harmonic mode a else (when is_modulated mode then 1f else gain_of mode a)

-- x * (1.0 - a * 0.5 * (1.0 - s))
unfoldable pub am_of : Float → Float → Float → Float
am_of a s x = x ⊗ (1f ⊖ a ⊗ ½f ⊗ (1f ⊖ s))

-- x * (1.0 - a + a * s)
unfoldable pub ring_of : Float → Float → Float → Float
ring_of a s x = x ⊗ (1f ⊖ a ⊕ a ⊗ s)

-- match mode.modulated()
abbrev pub level_by : Float → Float → Float → Result (Option Modulated) Refusal → Float
level_by a s x (Ok (Some Am)) = am_of a s x
level_by a s x (Ok (Some Ring)) = ring_of a s x
level_by a s x (Ok (Some (Fm t))) = x
level_by a s x (Ok (Some PhaseDistortion)) = x
level_by a s x (Ok None) = x
level_by a s x (Err _) = x

unfoldable pub level_of : ℕ → Option Setting → Float → Float
level_of mode None x = x
level_of mode (Some (Setting.Filter harmonic k)) x = x
level_of mode (Some (Setting.Curve a drive)) x = x
level_of mode (Some (Setting.Level a s)) x = level_by a s x (modulated_of mode)

-- what each case does to the sample x and the slot's state
unfoldable pub shape_of : List Float → ℕ → Option Setting → Float → Float → Svf → Filtered
shape_of sk mode None increment x state = record { y = x; state = state }
shape_of sk mode (Some (Setting.Filter harmonic k)) increment x state = filter_of sk mode harmonic increment k x state
shape_of sk mode (Some (Setting.Curve a drive)) increment x state = smooth_of sk mode a (x ⊗ drive) x state
shape_of sk mode (Some (Setting.Level a s)) increment x state = record { y = level_of mode (Some (Setting.Level a s)) x; state = state }
