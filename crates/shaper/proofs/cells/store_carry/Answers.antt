-- `cells::store_carry` meets its contract.
use Rattle.shaper.proofs.StoreLaws.{carry_put}
use Rattle.shaper.proofs.cells.store_carry.Goals as goal

pub returns : goal.returns
returns c = rw (c.place.ensures, c.place-2.ensures) (carry_put _ _ _ _ _ c.args.lane.inside c.requires)
