use Rattle.std.proofs.Common.{◌≡◌}
use Rattle.std.specs.Float.{nan}
use Rattle.grid.specs.Runs.{Ran}
use Rattle.wave.specs.Filter.{filter_with}
use Rattle.preview.specs.Filtering.{pass_to, drawn_at}
use Rattle.preview.proofs.filtering.Filter.draw_pass.Given as goal

abbrev pub invariant-loop-x : goal.invariant-loop-x
invariant-loop-x l =
    record {
      written : Ran nan (drawn_at (filter_with l.self.mode l.self.g l.self.k) l.initial.picture l.initial.state) l.initial.picture l.picture l.x-index;
      reached : l.state ≡ pass_to (filter_with l.self.mode l.self.g l.self.k) l.initial.picture l.initial.state l.x-index;
    }
