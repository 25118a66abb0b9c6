use Rattle.std.proofs.Common.{◌≡◌}
use Rattle.wave.specs.Filter.{filter_with}
use Rattle.preview.specs.Filtering.{settled_to, silent}
use Rattle.preview.proofs.filtering.Filter.settle.Given as goal

abbrev pub invariant-loop : goal.invariant-loop
invariant-loop l = l.state ≡ settled_to (filter_with l.self.mode l.self.g l.self.k) l.picture silent l.counter
