use Rattle.std.proofs.Common.{get_or}
use Rattle.std.specs.Float.{nan}
use Rattle.grid.specs.Runs.{Ran}
use Rattle.wave.specs.Smooth.{rectified}
use Rattle.preview.proofs.shaping.rectify_picture.Given as goal

abbrev pub invariant-loop-x : goal.invariant-loop-x
invariant-loop-x l = Ran nan (λ k. rectified l.a (get_or l.initial.picture k nan)) l.initial.picture l.picture l.x-index
