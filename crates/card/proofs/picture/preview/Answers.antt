-- `preview` meets its contract.
use Rattle.std.proofs.Common.{sym}
use Rattle.limits.specs.Refusals.{number_of}
use Rattle.preview.proofs.DrawnLaws.{turned_down_lem, taken}
use Rattle.card.proofs.picture.preview.Goals as goal

pub returns-in_err-check : goal.returns-in_err-check
returns-in_err-check c = turned_down_lem _ _ _ _ _ _ _ _ _ _ _ c.from_residual.ensures.1 c.in_err-check.ensures

pub returns : goal.returns
unfolding number_of
returns c =
    rw (← c.numbers_of.ensures, c.draw.ensures.count) (taken _ _ _ _ _ _ _ _ (sym c.in_ok-check.ensures) c.draw.ensures.drawn)
