-- `LaneRows::most` meets its contract.
use Prim.Native.Nat.{◌+◌}
use native.Mathlib.Omega.{arith}
use Rattle.controls.proofs.LentLaws.{row_held}
use Rattle.spans.proofs.rows.LaneRows.most.Goals as goal

pub bounds-xs-place : goal.bounds-xs-place
bounds-xs-place c = rw c.place.ensures (row_held c.args.self.all _ _ (c.args.self.from + c.loop-i.i) _ c.args.self.lane.inside (omega arith) c.requires)
