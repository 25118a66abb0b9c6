-- `maths::polynomial` meets its contract: nothing is left to do.
use Rattle.lanes.proofs.Polynomials.{left_none}
use Rattle.lanes.proofs.maths.polynomial.Goals as goal

pub returns : goal.returns
returns c = left_none _ _ _ _ _ c.in-None.ensures.steps.0 c.loop-c.invariant
