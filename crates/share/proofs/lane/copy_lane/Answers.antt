-- `copy_lane` meets its contract.
use mathlib.Core.Path.{refl}
use native.Mathlib.Omega.{arith}
use lib.ListN.{length-set}
use Rattle.share.proofs.ShareLaws.{copies_none, copies_more, to_in}
use Rattle.share.proofs.lane.copy_lane.Goals as goal

pub loop-k-init : goal.loop-k-init
loop-k-init c = (omega arith, refl, copies_none _ _ _ _ _)

pub loop-k-preserved : goal.loop-k-preserved
loop-k-preserved c =
    let lane = c.args.lane in (
      omega (arith, c.loop-k-test.true),
      rw length-set c.loop-k.invariant.1,
      rw (c.place-in-loop-k.ensures, c.place.ensures)
          (copies_more _ _ _ _ c.loop-k.k _ _ lane.inside
          (rw c.loop-k.invariant.1 (to_in c.requires lane.index lane.inside c.loop-k.k c.loop-k-test.true)) c.loop-k.invariant.2),
    )
