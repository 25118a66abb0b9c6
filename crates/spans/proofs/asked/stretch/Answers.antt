-- `asked::stretch` meets its contract.
use Rattle.spans.proofs.FasterLaws.{no_value}
use Rattle.spans.proofs.asked.stretch.Goals as goal

pub returns-in_err-check_stretch : goal.returns-in_err-check_stretch
returns-in_err-check_stretch c = no_value _ _ _ _ _ _ _ _ _ _ _ _ _ _ c.from_residual.ensures.1 c.in_err-check_stretch.ensures
