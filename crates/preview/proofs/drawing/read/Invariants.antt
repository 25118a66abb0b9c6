use Rattle.std.proofs.Common.{length}
use Rattle.std.specs.Float.{nan}
use Rattle.grid.specs.Runs.{Ran}
use Rattle.preview.specs.Points.{word_at, point_of}
use Rattle.preview.proofs.drawing.read.Given as goal

abbrev pub invariant-loop-i : goal.invariant-loop-i
invariant-loop-i l =
    Ran nan (λ k. point_of l.tables.numbers.sin l.tables.numbers.atan l.tables.curve.values.now l.cycle.samples.now l.map0 l.map1 (word_at (length l.initial.picture) k)) l.initial.picture l.picture l.i
