use mathlib.Core.Path.{◌≡◌}
use Prim.Native.Nat.{ℕ, ◌<◌}
use lib.ListN.{get_or}
use lib.Ieee.{nan}
use Rattle.grid.specs.Cells.{blk}
use Rattle.halfband.proofs.stage.load.Given as goal

abbrev pub invariant-loop-i : goal.invariant-loop-i
invariant-loop-i l = (k : ℕ) → k < l.i → get_or l.cell-items k nan ≡ blk nan 24 l.lane.lanes l.lane.index l.state l.block k
