use mathlib.Core.Path.{◌≡◌}
use Prim.Native.Nat.{◌-◌, ◌≤◌}
use lib.ListN.{length}
use Rattle.render.proofs.PlainLaws.{ReadTo}
use Rattle.render.proofs.plain.read_lane.Given as goal

abbrev pub invariant-loop-k : goal.invariant-loop-k
invariant-loop-k l =
    (l.k ≤ l.count) × (length l.work ≡ length l.initial.work)
    × ReadTo l.from l.lane.lanes l.lane.index l.cycle.samples.now l.words l.k l.initial.work l.work

abbrev pub decreases-loop-k : goal.decreases-loop-k
decreases-loop-k l = l.count - l.k
