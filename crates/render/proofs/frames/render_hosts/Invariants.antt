use Prim.Native.Nat.{◌-◌, ◌*◌, ◌≤◌}
use Rattle.render.specs.Lane.{inputs_in}
use Rattle.render.specs.Slices.{accepted_lists}
use Rattle.render.specs.Frames.{Ran}
use Rattle.render.proofs.frames.render_hosts.Given as goal

abbrev pub invariant-loop-k : goal.invariant-loop-k
invariant-loop-k l =
    (l.k ≤ l.count)
    × Ran l.s l.scale (inputs_in l.s (accepted_lists l.lent) l.lane) l.lane (l.first * l.s.factor) 0 (l.k * l.s.factor) l.initial.state l.state l.initial.work l.work

abbrev pub decreases-loop-k : goal.decreases-loop-k
decreases-loop-k l = l.count - l.k
