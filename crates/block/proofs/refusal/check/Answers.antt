-- `refusal::check` meets its contract: by the first line that holds.
use Rattle.limits.proofs.LineLaws.{by_numbers}
use Rattle.block.proofs.RefusalLaws.{table_is}
use Rattle.block.proofs.refusal.check.Goals as goal

pub returns-in_err-check_numbers : goal.returns-in_err-check_numbers
returns-in_err-check_numbers c =
    rw (table_is _ _ _) (by_numbers _ _ _ _ _ c.from_residual.ensures.1 c.in_err-check_numbers.ensures)
