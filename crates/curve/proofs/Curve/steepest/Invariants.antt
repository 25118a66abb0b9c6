use Rattle.std.specs.Prelude.{◌≡◌}
use Rattle.std.specs.Slice.Iter.{windows_size, windows_rest}
use Rattle.curve.proofs.Pairs.{Passed}
use Rattle.curve.proofs.Curve.steepest.Given as goal

abbrev pub invariant-loop-pair : goal.invariant-loop-pair
invariant-loop-pair l = (windows_size l.pair-iterator ≡ 2) × Passed l.self.values.now (windows_rest l.pair-iterator) l.steepest
