-- Which stage it is. Definitions only.
use Rattle.std.specs.Prelude.{Bool, true, false}
use Rattle.modes.specs.declared.facts.Stage.{Stage}
use Rattle.modes.specs.declared.facts.Stage.TheVariants.{Off, Phase, Wave}

abbrev pub is_off : Stage → Bool
is_off Off = true
is_off Phase = false
is_off Wave = false

abbrev pub is_phase : Stage → Bool
is_phase Off = false
is_phase Phase = true
is_phase Wave = false

abbrev pub is_wave : Stage → Bool
is_wave Off = false
is_wave Phase = false
is_wave Wave = true
