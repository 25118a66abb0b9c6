use Prim.Native.Nat.{◌≤◌, ◌-◌}
use Rattle.share.specs.Share.{buffers}
use Rattle.render.specs.Slices.{lent_lists}
use Rattle.share.specs.Promises.{Shared}
use Rattle.block.proofs.run.run_lanes.Given as goal

abbrev pub invariant-loop-lane : goal.invariant-loop-lane
invariant-loop-lane l =
    ((l.from ≤ l.lane) × (l.lane ≤ l.to))
    × Shared (record { shaper = l.shaper; rate = l.rate; designs = l.designs }) l.r (lent_lists l.lent) l.from l.lane
    (buffers l.initial.output l.initial.work l.initial.pairs l.initial.fm l.initial.last l.initial.dec) (buffers l.output l.work l.pairs l.fm l.last l.dec)

abbrev pub decreases-loop-lane : goal.decreases-loop-lane
decreases-loop-lane l =
    l.to - l.lane
