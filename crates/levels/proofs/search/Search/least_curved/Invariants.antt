use Rattle.std.proofs.Common.{◌≡◌, ◌≤◌, false}
use Rattle.limits.specs.Search.{some_below}
use Rattle.levels.specs.Parts.{curved_at}
use Rattle.levels.proofs.search.Search.least_curved.Given as goal

-- no amount of the parts before serves
abbrev pub invariant-loop-from : goal.invariant-loop-from
invariant-loop-from l = (l.from ≤ 10064) × (some_below l.from (curved_at l.self.numbers.sin l.self.mode l.self.sample l.self.wanted l.self.tolerance) ≡ false)
