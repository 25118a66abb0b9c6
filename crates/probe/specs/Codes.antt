-- The mode facts as the numbers that the comparison uses. Definitions only.
use Rattle.std.specs.Prelude.{ℕ, ◌+◌, Bool, true, false, Option, Some, None, Result, Ok, Err}
use Rattle.limits.specs.Refusals.{line_of}
use Rattle.limits.specs.declared.refusal.Refusal.{Refusal}
use Rattle.modes.specs.declared.facts.Source.{Source}
use Rattle.modes.specs.declared.facts.Source.TheVariants.{Osc1, Osc2, Noise, Sub, Filter1, Filter2, Own}
use Rattle.modes.specs.declared.facts.FmType.{FmType}
use Rattle.modes.specs.declared.facts.FmType.TheVariants.{ThruZero, Exponential, Linear}
use Rattle.modes.specs.declared.facts.Modulated.{Modulated}
use Rattle.modes.specs.declared.facts.Modulated.TheVariants.{Fm, PhaseDistortion, Am, Ring}
use Rattle.modes.specs.declared.facts.Stage.{Stage}
use Rattle.modes.specs.declared.facts.Stage.TheVariants.{Off, Phase, Wave}

abbrev pub code_of : {A : Type 0} → (A → ℕ) → Result A Refusal → ℕ
code_of code (Ok x) = code x
code_of code (Err refusal) = 256 + line_of refusal

abbrev pub source_code : Option Source → ℕ
source_code None = 0
source_code (Some Osc1) = 1
source_code (Some Osc2) = 2
source_code (Some Noise) = 3
source_code (Some Sub) = 4
source_code (Some Filter1) = 5
source_code (Some Filter2) = 6
source_code (Some Own) = 7

abbrev pub fm_type_code : Option FmType → ℕ
fm_type_code None = 0
fm_type_code (Some ThruZero) = 1
fm_type_code (Some Exponential) = 2
fm_type_code (Some Linear) = 3

abbrev pub modulated_code : Option Modulated → ℕ
modulated_code None = 0
modulated_code (Some (Fm t)) = 1
modulated_code (Some PhaseDistortion) = 2
modulated_code (Some Am) = 3
modulated_code (Some Ring) = 4

abbrev pub stage_code : Stage → ℕ
stage_code Off = 0
stage_code Phase = 1
stage_code Wave = 2

abbrev pub flag_code : Bool → ℕ
flag_code false = 0
flag_code true = 1
