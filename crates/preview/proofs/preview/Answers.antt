-- `preview` meets its contract.
use Rattle.std.proofs.Common.{sym}
use Rattle.limits.specs.Refusals.{number_of}
use Rattle.preview.proofs.DrawnLaws.{fits, turned_down_lem, taken}
use Rattle.preview.proofs.preview.Goals as goal

pub returns-in_err-check : goal.returns-in_err-check
returns-in_err-check c = turned_down_lem _ _ _ _ _ _ _ _ _ _ _ c.from_residual.ensures.1 c.in_err-check.ensures

pub invariant_of-tables : goal.invariant_of-tables
unfolding number_of
invariant_of-tables c = record { whole = (fits _ _ _ _ _ _ (sym c.in_ok-check.ensures)).0 }

pub invariant_of-cycle : goal.invariant_of-cycle
unfolding number_of
invariant_of-cycle c = record { whole = (fits _ _ _ _ _ _ (sym c.in_ok-check.ensures)).1 }

pub draw-requires : goal.draw-requires
unfolding number_of
draw-requires c = (fits _ _ _ _ _ _ (sym c.in_ok-check.ensures)).2

pub returns : goal.returns
unfolding number_of
returns c = rw c.draw.ensures.count (taken _ _ _ _ _ _ _ _ (sym c.in_ok-check.ensures) c.draw.ensures.drawn)
