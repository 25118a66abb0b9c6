use Rattle.std.proofs.Common.{◌≡◌, ℕ, ◌+◌, ◌<◌, length, slice_index}
use Rattle.answers.specs.Random.{after_of}
use Rattle.answers.proofs.random.Random.draws.Given as goal

abbrev pub invariant-loop-draw : goal.invariant-loop-draw
invariant-loop-draw g l = record {
  kept : l.self.state ≡ after_of l.fn.self.state l.draw-index;
  long : length l.draw-items ≡ g.row.N;
  drawn : (k : ℕ) → k < l.draw-index → slice_index l.draw-items k ≡ after_of l.fn.self.state (k + 1);
}
