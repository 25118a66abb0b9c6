-- `cells::store_pairs` meets its contract.
use Rattle.shaper.proofs.StoreLaws.{pairs_put}
use Rattle.shaper.proofs.cells.store_pairs.Goals as goal

pub returns : goal.returns
returns c =
    rw (c.place.ensures, c.place-2.ensures, c.place-3.ensures, c.place-4.ensures)
    (pairs_put _ _ _ _ _ c.args.lane.inside c.requires)
