-- `stage::stage` meets its contract.
use Rattle.halfband.specs.Floats.{sections_of}
use Rattle.halfband.proofs.StageLaws.{staged}
use Rattle.halfband.proofs.stage.stage.Goals as goal

pub returns : goal.returns
returns c =
    staged (sections_of c.args.design.now) _ _ _ _ _ _ _ _ _ _ c.args.lane.inside c.load-cells.ensures
    c.run_counted.ensures c.store.ensures
