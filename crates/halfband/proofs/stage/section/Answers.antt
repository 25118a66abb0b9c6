-- `stage::section` meets its contract.
use Rattle.halfband.proofs.LocalLaws.{stepped}
use Rattle.halfband.proofs.stage.section.Goals as goal

pub returns : goal.returns
returns c = stepped _ _ c.args.i _ c.told-cells c.requires
