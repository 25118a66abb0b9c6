use mathlib.Core.Path.{◌≡◌}
use Prim.Native.Nat.{◌-◌, ◌≤◌}
use lib.ListN.{length}
use Rattle.share.proofs.ShareLaws.{Copies}
use Rattle.share.proofs.lane.copy_lane.Given as goal

abbrev pub invariant-loop-k : goal.invariant-loop-k
invariant-loop-k l =
    (l.k ≤ l.count) × (length l.output ≡ length l.initial.output)
    × Copies l.first l.lane.lanes l.lane.index l.work l.k l.initial.output l.output

abbrev pub decreases-loop-k : goal.decreases-loop-k
decreases-loop-k l = l.count - l.k
