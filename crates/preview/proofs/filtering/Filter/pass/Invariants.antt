use Rattle.std.proofs.Common.{◌≡◌}
use Rattle.wave.specs.Filter.{filter_with}
use Rattle.preview.specs.Filtering.{pass_to}
use Rattle.preview.proofs.filtering.Filter.pass.Given as goal

abbrev pub invariant-loop-x : goal.invariant-loop-x
invariant-loop-x l = l.state ≡ pass_to (filter_with l.self.mode l.self.g l.self.k) l.picture l.initial.state l.x-index
