-- `voice::sum_of` meets its contract.
use mathlib.Core.Bool.{◌||◌}
use mathlib.Core.Path.{sym, ap₂, ◌∙◌}
use Rattle.floats.specs.Steps.{given, taken}
use Rattle.voice.specs.PhaseRun.{reads_of}
use Rattle.voice.proofs.SumRunLaws.{none_summed}
use Rattle.voice.proofs.sum_run.sum_of.Goals as goal

pub returns-then-in_phase : goal.returns-then-in_phase
unfolding reads_of
returns-then-in_phase c = rw (← c.in_phase.ensures, ← c.in_phase-2.ensures, taken _ _ c.if-in_phase.true, given c.signed-increment.ensures) c.sum_list.ensures

pub returns : goal.returns
returns c =
    rw c.read.ensures
    (none_summed _ _ _ _ _ _ _ _ _ _ _ _ _ _ _
    (ap₂ ◌||◌ (sym c.in_phase.ensures) (sym c.in_phase-2.ensures) ∙ c.if-in_phase.false))
