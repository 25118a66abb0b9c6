use Rattle.std.proofs.Common.{get_or}
use Rattle.std.specs.Float.{nan}
use Rattle.floats.specs.F32.{◌⊗◌}
use Rattle.grid.specs.Runs.{Ran}
use Rattle.wave.specs.Curve.{curve_of}
use Rattle.wave.proofs.curves.curve_all.Given as goal

abbrev pub invariant-loop-x : goal.invariant-loop-x
invariant-loop-x l = Ran nan (λ k. curve_of l.numbers.sin l.mode (get_or l.initial.xs k nan ⊗ l.by)) l.initial.xs l.xs l.x-index
