-- `refusal::check` meets its contract.
use mathlib.Core.Path.{◌∙◌}
use Rattle.limits.specs.Refusals.{number_of}
use Rattle.limits.proofs.LineLaws.{by_numbers, last_lines}
use Rattle.halfband.proofs.RefusalLaws.{table_is}
use Rattle.halfband.proofs.refusal.check.Goals as goal

pub returns-in_err-check_numbers : goal.returns-in_err-check_numbers
returns-in_err-check_numbers c =
    rw table_is (by_numbers _ _ _ _ _ c.from_residual.ensures.1 c.in_err-check_numbers.ensures)

pub returns : goal.returns
unfolding number_of
returns c =
    rw (table_is, ← c.in_ok-check_numbers.ensures, ← c.rendered_length-rendered.ensures, ← c.state_length.ensures, ← c.short.ensures, ← c.short-2.ensures, ← c.short-3.ensures)
    (c.check_lines.ensures ∙ last_lines _ _)
