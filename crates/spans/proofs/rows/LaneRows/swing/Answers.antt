-- `LaneRows::swing` meets its contract.
use Prim.Native.Nat.{◌+◌}
use native.Mathlib.Omega.{arith}
use Rattle.controls.proofs.LentLaws.{row_held}
use Rattle.spans.proofs.rows.LaneRows.swing.Goals as goal

pub bounds-source-place-in-loop-i : goal.bounds-source-place-in-loop-i
bounds-source-place-in-loop-i c = rw c.place-in-loop-i.ensures (row_held c.args.self.all _ _ (c.args.self.from + c.loop-i.i) _ c.args.self.lane.inside (omega arith) c.requires)
