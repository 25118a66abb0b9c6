-- `blocks::prepare_lane` meets its contract.
use native.Mathlib.Omega.{arith}
use Rattle.spans.proofs.FilledLaws.{stored_in_lem, filled_none, filled_more}
use Rattle.spans.proofs.blocks.prepare_lane.Goals as goal

pub loop-s-init : goal.loop-s-init
loop-s-init c = filled_none _ _ _ _ _ _ _ _ _ _

pub loop-s-preserved : goal.loop-s-preserved
loop-s-preserved c =
    let at = stored_in_lem c.requires _ c.loop-s.s c.args.lane.inside c.loop-s-test.true in
    rw c.place-at.ensures
    (filled_more _ _ _ _ _ _ _ _ _ _ c.loop-s.s _ _ _ _ c.args.lane.inside (omega (arith, at.0)) (omega (arith, at.1)) (omega (arith, at.2)) c.span_at-span.ensures c.loop-s.invariant)
