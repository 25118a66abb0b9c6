-- `read_lane` meets its contract: its promise, at the counter, is the invariant.
use mathlib.Core.Path.{refl}
use native.Mathlib.Omega.{arith}
use lib.ListN.{length-set}
use Rattle.render.proofs.PlainLaws.{reads_none, reads_more, work_in}
use Rattle.render.proofs.plain.read_lane.Goals as goal

pub loop-k-init : goal.loop-k-init
loop-k-init c = (omega arith, refl, reads_none _ _ _ _ _ _)

pub loop-k-preserved : goal.loop-k-preserved
loop-k-preserved c =
    let lane = c.args.lane in (
      omega (arith, c.loop-k-test.true),
      rw length-set c.loop-k.invariant.1,
      rw c.place-in-loop-k.ensures
          (reads_more _ _ _ _ _ c.loop-k.k _ _ _ lane.inside
          (rw c.loop-k.invariant.1 (work_in c.requires lane.index lane.inside c.loop-k.k c.loop-k-test.true))
          (rw (← c.place.ensures) c.read.ensures) c.loop-k.invariant.2),
    )
