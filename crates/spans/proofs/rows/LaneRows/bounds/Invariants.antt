use mathlib.Core.Path.{◌≡◌}
use lib.Ieee.{nan}
use Rattle.grid.specs.Cells.{column}
use Rattle.spans.specs.Slopes.{bounds_to}
use Rattle.spans.proofs.rows.LaneRows.bounds.Given as goal

-- over the rows passed
abbrev pub invariant-loop-i : goal.invariant-loop-i
invariant-loop-i l = l.bounds ≡ bounds_to l.base (column nan l.self.lane.lanes l.self.lane.index l.self.all l.modulation) l.self.from l.i
