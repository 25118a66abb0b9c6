-- `voice::map_slot` meets its contract.
use Rattle.phase.proofs.Few.{apply_few}
use Rattle.voice.proofs.phase_run.map_slot.Goals as goal

pub returns-in-Some-clause-few : goal.returns-in-Some-clause-few
returns-in-Some-clause-few c = rw c.apply.ensures (apply_few _ _ _ _ _ _ _).few
