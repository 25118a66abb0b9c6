-- `Search::least` meets its contract.
use mathlib.Core.Path.{◌∙◌}
use native.Mathlib.Omega.{arith}
use Rattle.levels.proofs.PartLaws.{same_least, all_rectified, all_curved}
use Rattle.levels.proofs.search.Search.least.Goals as goal

pub returns-in-28 : goal.returns-in-28
returns-in-28 c = c.least_rectified.ensures ∙ same_least _ _ _ (all_rectified _ _ _ _ _ c.in-28.is)

pub returns-in_default : goal.returns-in_default
returns-in_default c = c.least_curved.ensures ∙ same_least _ _ _ (all_curved _ _ _ _ _ (λ e. omega arith))
