use Prim.Native.Nat.{◌+◌}
use Rattle.grid.specs.Lanes.{Each}
use Rattle.controls.specs.Controls.{controls_of}
use Rattle.controls.specs.Slices.{control_lists}
use Rattle.spans.specs.Prepared.{spans, views, filled}
use Rattle.spans.proofs.blocks.prepare_lane.Given as goal

-- the sub-blocks passed are in the lane's rows
abbrev pub invariant-loop-s : goal.invariant-loop-s
invariant-loop-s l =
    Each l.lane.lanes l.lane.index (l.lane.index + 1)
    (λ j. filled l.block.mode0 l.block.mode1 l.block.factor l.block.frames l.block.rate l.block.curve (controls_of l.lane.lanes j l.block.frames (control_lists l.controls)) l.s)
    (views l.lane.lanes (spans l.initial.inner l.initial.stretch l.initial.add)) (views l.lane.lanes (spans l.inner l.stretch l.add))
