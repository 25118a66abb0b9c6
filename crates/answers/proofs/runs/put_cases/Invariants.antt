use Rattle.std.proofs.Common.{◌≡◌, ◌≤◌}
use Rattle.answers.proofs.runs.put_cases.Given as goal

abbrev pub invariant-loop : goal.invariant-loop
invariant-loop g l = goal.F-IsAlwaysCallable g l.step × (l.counter ≤ l.count) × (l.count ≡ 0 → l.hash ≡ l.fn.hash)
