-- `phase::mapped_sum` meets its contract: one way of the code for each number of reads that slot 0 is given.
use mathlib.Core.Path.{◌∙◌}
use Rattle.phase.proofs.SumLaws.{sum_off, sum_plain, sum_weighted, sum_two_lem}
use Rattle.phase.proofs.sums.mapped_sum.Goals as goal

pub returns-in_default : goal.returns-in_default
returns-in_default g c = rw c.in_default.is (c.sum_one.ensures ∙ sum_off _ _ _ _ _ _ _ _ _ c.map_if-reads.ensures)

pub returns-in-Both : goal.returns-in-Both
returns-in-Both g c =
    rw c.in-Some.is (c.sum_two.ensures ∙ sum_two_lem _ _ _ _ _ _ _ _ _ c.map_if-reads.ensures _ _ _ c.in-Both.is c.map-first.ensures c.map-second.ensures)

pub returns-in-Weighted : goal.returns-in-Weighted
returns-in-Weighted g c =
    rw c.in-Some.is (c.products.ensures ∙ sum_weighted _ _ _ _ _ _ _ _ _ c.map_if-reads.ensures _ _ c.in-Weighted.is c.map-first.ensures)

pub returns-in-One : goal.returns-in-One
returns-in-One g c =
    rw c.in-Some.is (c.sum_one-in-One.ensures ∙ sum_plain _ _ _ _ _ _ _ _ _ c.map_if-reads.ensures _ _ c.in-One.is c.map-first.ensures)
