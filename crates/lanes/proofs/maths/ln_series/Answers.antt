-- `lanes::ln_series` meets its contract.
use Rattle.floats.specs.Steps.{steps}
use Rattle.lanes.specs.Maths.{ln_series}
use Rattle.lanes.proofs.maths.ln_series.Goals as goal

pub returns : goal.returns
unfolding ln_series
returns c = search steps depth 12
