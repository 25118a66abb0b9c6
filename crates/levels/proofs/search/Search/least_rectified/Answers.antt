-- `Search::least_rectified` meets its contract.
use Rattle.std.proofs.Common.{◌≡◌, true, false, rules}
use borrow.Author.Tests.{tests}
use Rattle.std.proofs.lemmas.Iterator.{first_from_Range}
use Rattle.levels.specs.Levels.{amounts}
use Rattle.levels.specs.Parts.{rectified_at}
use Rattle.levels.proofs.PartLaws.{found_first}
use Rattle.levels.proofs.search.Search.least_rectified.Goals as goal

pub returns : goal.returns
unfolding rectified_at
returns c =
    let a = c.args.self in
    let p = rectified_at a.sample a.wanted a.tolerance in
    found_first amounts p _ (first_from_Range _ _ _ _ (λ i. p i ≡ true) (λ i. p i ≡ false) c.find.ensures.ran (λ x q k. search (rules, tests)) (λ x q k. search (rules, tests)))
