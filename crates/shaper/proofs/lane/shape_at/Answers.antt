-- `lane::shape_at` meets its contract: its steps are the definition's.
use Rattle.floats.specs.Steps.{given}
use Rattle.shaper.specs.Lane.{control0_at, control1_at, shaped_at}
use Rattle.shaper.proofs.lane.shape_at.Goals as goal

pub returns : goal.returns
unfolding shaped_at control0_at control1_at
returns c =
    rw (
      given c.control-control0.ensures,
      given c.control-control1.ensures,
      ← c.new.ensures.slot,
      ← c.new.ensures.control,
      ← c.new-2.ensures.slot,
      ← c.new-2.ensures.control,
    ) c.shape_of.ensures
