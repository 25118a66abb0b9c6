-- `Filter::draw_pass` meets its contract.
use Rattle.std.proofs.Common.{arith}
use Rattle.grid.proofs.RunLaws.{ran_more}
use Rattle.preview.proofs.RunLaws.{pass_more, point_drawn}
use Rattle.preview.proofs.filtering.Filter.draw_pass.Goals as goal

pub loop-x-preserved : goal.loop-x-preserved
loop-x-preserved c =
    let l = c.loop-x in
    let said = rw (l.invariant.written.kept l.x-index (omega arith)) at c.filter_with-out.ensures in
    record {
      written = ran_more _ _ _ _ _ (omega (arith, l.invariant.written.long)) l.invariant.written (point_drawn _ _ _ _ _ _ l.invariant.reached said);
      reached = pass_more _ _ _ _ _ _ l.invariant.reached said;
    }
