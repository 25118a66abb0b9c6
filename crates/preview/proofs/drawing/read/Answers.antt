-- `drawing::read` meets its contract.
use Rattle.std.proofs.Common.{arith, ◌∙◌}
use Rattle.grid.proofs.RunLaws.{ran_more, ran_whole}
use Rattle.preview.specs.Picture.{read_of}
use Rattle.preview.proofs.PointLaws.{summed}
use Rattle.preview.proofs.drawing.read.Goals as goal

pub loop-i-preserved : goal.loop-i-preserved
loop-i-preserved c =
    let l = c.loop-i in
    ran_more _ _ _ _ _ (omega (arith, l.invariant.long)) l.invariant (rw c.word_at.ensures at (c.mapped_sum.ensures ∙ summed _ _ _ _ _ _ _))

pub returns : goal.returns
unfolding read_of
returns c = ran_whole _ _ _ _ c.loop-i.invariant (omega (arith, c.loop-i.invariant.long))
