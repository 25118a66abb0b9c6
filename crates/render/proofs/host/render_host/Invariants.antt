use mathlib.Core.Path.{◌≡◌}
use Prim.Native.Nat.{◌-◌, ◌*◌, ◌≤◌}
use lib.ListN.{length}
use Rattle.render.specs.Lane.{inputs_in}
use Rattle.render.specs.Slices.{accepted_lists}
use Rattle.render.specs.Frames.{Ran}
use Rattle.render.proofs.host.render_host.Given as goal

abbrev pub invariant-loop-sub : goal.invariant-loop-sub
invariant-loop-sub l =
    (l.sub ≤ l.sub-end) × (l.sub-end ≡ l.s.factor) × (length l.work ≡ length l.initial.work)
    × Ran l.s l.scale (inputs_in l.s (accepted_lists l.lent) l.lane) l.lane (l.host * l.s.factor) l.row l.sub l.initial.state l.state l.initial.work l.work

abbrev pub decreases-loop-sub : goal.decreases-loop-sub
decreases-loop-sub l = l.sub-end - l.sub
