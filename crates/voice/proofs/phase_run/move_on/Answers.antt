-- `voice::move_on` meets its contract.
use Rattle.reads.proofs.Few.{shift_few}
use Rattle.voice.proofs.phase_run.move_on.Goals as goal

pub returns-in-Some-clause-few : goal.returns-in-Some-clause-few
returns-in-Some-clause-few c = rw c.shift.ensures (shift_few c.args.list _ (record { few = c.requires })).few
