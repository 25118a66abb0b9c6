use mathlib.Core.Path.{◌≡◌}
use lib.Ieee.{nan}
use Rattle.grid.specs.Cells.{column}
use Rattle.spans.specs.Slopes.{swing_to}
use Rattle.spans.proofs.rows.LaneRows.swing.Given as goal

-- over the rows passed
abbrev pub invariant-loop-i : goal.invariant-loop-i
invariant-loop-i l = l.swing ≡ swing_to (column nan l.self.lane.lanes l.self.lane.index l.self.all l.source) l.self.from l.i
