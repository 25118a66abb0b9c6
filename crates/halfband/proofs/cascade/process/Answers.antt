-- `cascade::process` meets its contract where it turns a call down.
use Rattle.halfband.proofs.DecimatedLaws.{turned_down_lem}
use Rattle.halfband.proofs.cascade.process.Goals as goal

pub returns-in_err-check : goal.returns-in_err-check
returns-in_err-check c = turned_down_lem c.args.designs 36 _ _ _ _ _ _ _ _ c.from_residual.ensures.1 c.in_err-check.ensures
