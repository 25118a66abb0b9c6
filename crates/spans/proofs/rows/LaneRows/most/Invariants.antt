use mathlib.Core.Path.{◌≡◌}
use lib.Ieee.{nan}
use Rattle.grid.specs.Cells.{column}
use Rattle.spans.specs.Asked.{most_to}
use Rattle.spans.proofs.rows.LaneRows.most.Given as goal

-- over the rows passed
abbrev pub invariant-loop-i : goal.invariant-loop-i
invariant-loop-i l = l.most ≡ most_to l.start (column nan l.self.lane.lanes l.self.lane.index l.self.all l.xs) l.self.from l.i
