-- `cascade::decimate_lane` meets its contract.
use Prim.Native.Nat.{◌-◌}
use native.Mathlib.Omega.{arith}
use Rattle.halfband.specs.Floats.{floats, design_of}
use Rattle.halfband.proofs.CascadeLaws.{shifted, stage_rows, stages_then, stages_done}
use Rattle.halfband.proofs.cascade.decimate_lane.Goals as goal

pub stage-requires-clause-rows : goal.stage-requires-clause-rows
stage-requires-clause-rows c =
    let left = c.loop-from_last.from_last - 1 in
    rw (shifted c.requires left (omega arith), c.loop-from_last.auto.buffer) (stage_rows c.requires left (omega arith))

pub loop-from_last-preserved : goal.loop-from_last-preserved
loop-from_last-preserved c = λ w rest.
    c.loop-from_last.invariant w
    (stages_then floats (design_of c.args.designs.now) _ _ _ _ (omega arith)
    (rw (shifted c.requires (c.loop-from_last.from_last - 1) (omega arith)) at c.stage.ensures) rest)

pub returns : goal.returns
returns c = c.loop-from_last.invariant _ (stages_done _ _ _ _ _ _ (omega arith))
