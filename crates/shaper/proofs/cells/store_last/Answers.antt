-- `cells::store_last` meets its contract.
use Rattle.shaper.proofs.StoreLaws.{last_put}
use Rattle.shaper.proofs.cells.store_last.Goals as goal

pub returns : goal.returns
returns c = rw c.place.ensures (last_put _ _ _ _ c.args.lane.inside c.requires)
