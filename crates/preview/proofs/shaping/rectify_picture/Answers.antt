-- `shaping::rectify_picture` meets its contract.
use Rattle.std.proofs.Common.{arith}
use Rattle.grid.proofs.RunLaws.{ran_whole}
use Rattle.preview.specs.Shaping.{rectified_of}
use Rattle.preview.proofs.shaping.rectify_picture.Goals as goal

pub returns : goal.returns
unfolding rectified_of
returns c = ran_whole _ _ _ _ c.loop-x.invariant (omega (arith, c.loop-x.invariant.long))
