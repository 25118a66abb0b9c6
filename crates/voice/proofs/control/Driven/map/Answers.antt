-- `Driven::map` meets its contract.
use mathlib.Core.Path.{ap}
use Rattle.std.specs.Prelude.{Some}
use Rattle.floats.specs.Steps.{taken}
use Rattle.phase.specs.Setting.{setting_if}
use Rattle.voice.proofs.Powers.{set_powered}
use Rattle.voice.proofs.control.Driven.map.Goals as goal

pub returns-then-in_phase : goal.returns-then-in_phase
unfolding setting_if
returns-then-in_phase c = rw (← c.in_phase.ensures, taken _ _ c.if-in_phase.true) (ap Some (set_powered _ _ _ _ _))
