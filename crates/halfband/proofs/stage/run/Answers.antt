-- `stage::run` meets its contract.
use native.Mathlib.Omega.{arith}
use Rattle.halfband.specs.Floats.{sections_of}
use Rattle.halfband.proofs.StageLaws.{row_held, run_none, run_more}
use Rattle.halfband.proofs.stage.run.Goals as goal

pub loop-k-init : goal.loop-k-init
loop-k-init g c = run_none _ _ _ _ _ c.told-cells

pub loop-k-preserved : goal.loop-k-preserved
loop-k-preserved g c =
    rw c.place-in-loop-k-2.ensures
    (run_more (sections_of c.args.design.now) _ _ _ _ _ _ _ _ _ c.args.lane.inside (row_held _ c.args.frames _ _ c.loop-k.k (rw c.loop-k.auto.buffer c.requires.rows) c.args.lane.inside (omega arith)) c.loop-k.invariant
    (rw (c.place.ensures, c.place-in-loop-k.ensures, ← c.requires.count) at c.frame.ensures))
