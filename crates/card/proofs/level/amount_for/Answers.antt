-- `amount_for` meets its contract.
use Rattle.levels.proofs.LevelLaws.{refused_lem}
use Rattle.card.proofs.level.amount_for.Goals as goal

pub returns-in_err-check : goal.returns-in_err-check
returns-in_err-check c = refused_lem _ _ _ _ _ _ _ _ c.from_residual.ensures.1 c.in_err-check.ensures
