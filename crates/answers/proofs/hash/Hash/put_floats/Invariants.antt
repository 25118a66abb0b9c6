use Rattle.std.proofs.Common.{◌≡◌, take}
use Rattle.answers.specs.Hash.{with_floats}
use Rattle.answers.proofs.hash.Hash.put_floats.Given as goal

abbrev pub invariant-loop-x : goal.invariant-loop-x
invariant-loop-x l = l.self.value ≡ with_floats l.fn.self.value (take l.x-index l.xs)
