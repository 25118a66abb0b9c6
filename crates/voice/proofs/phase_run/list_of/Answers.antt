-- `voice::list_of` meets its contract: its steps are the definition's.
use Rattle.floats.specs.Steps.{given}
use Rattle.voice.specs.PhaseRun.{list_of}
use Rattle.voice.proofs.phase_run.list_of.Goals as goal

pub returns-clause-value : goal.returns-clause-value
unfolding list_of
returns-clause-value c =
    rw (
      given c.half_width-half.ensures,
      given c.start.ensures,
      given c.map_slot-list1.ensures.value,
      given c.map_slot-list0.ensures.value,
      given c.move_on-moved1.ensures.value,
      given c.move_on-moved0.ensures.value,
      given c.from.ensures,
    )
