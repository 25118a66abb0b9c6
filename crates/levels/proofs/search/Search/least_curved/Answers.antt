-- `Search::least_curved` meets its contract. The loop's invariant: no amount of the parts before serves.
use mathlib.Core.Path.{sym, ◌∙◌}
use native.Mathlib.Omega.{arith}
use Rattle.limits.proofs.SearchLaws.{none_yet, part_none, part_found, part_past, none_past}
use Rattle.levels.specs.Levels.{amounts}
use Rattle.levels.specs.Parts.{part_length}
use Rattle.levels.proofs.PartLaws.{least_there, least_nowhere, from_least}
use Rattle.levels.proofs.search.Search.least_curved.Goals as goal

pub loop-from-init : goal.loop-from-init
loop-from-init c = (omega arith, none_yet _)

pub overflow_cast-found : goal.overflow_cast-found
overflow_cast-found c = let f = from_least _ _ c.in-Some.ensures in omega (arith, f.0)

pub overflow_add-found : goal.overflow_add-found
overflow_add-found c = let f = from_least _ _ c.in-Some.ensures in omega (arith, f.0)

pub returns-then-found-lt-COUNT : goal.returns-then-found-lt-COUNT
returns-then-found-lt-COUNT c =
    let f = from_least _ _ c.in-Some.ensures in
    let low = c.if-found-lt-COUNT.true in
    least_there _ _ (part_found _ _ _ c.loop-from.invariant.1 f.1 amounts f.0 low) low

pub returns-else-found-lt-COUNT : goal.returns-else-found-lt-COUNT
returns-else-found-lt-COUNT c =
    let f = from_least _ _ c.in-Some.ensures in
    least_nowhere _ _ (part_past _ _ _ c.loop-from.invariant.1 f.1 amounts c.if-found-lt-COUNT.false)

pub loop-from-preserved : goal.loop-from-preserved
loop-from-preserved c =
    let none = from_least _ _ (sym c.in_default.is ∙ c.part_within.ensures) in
    (omega arith, part_none _ _ part_length c.loop-from.invariant.1 none (omega arith))

pub returns : goal.returns
returns c = least_nowhere _ _ (none_past _ _ amounts c.loop-from.invariant.1 c.loop-from-test.false)
