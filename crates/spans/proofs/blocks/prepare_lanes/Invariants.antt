use Rattle.grid.specs.Lanes.{Each}
use Rattle.controls.specs.Controls.{controls_of}
use Rattle.controls.specs.Slices.{control_lists}
use Rattle.spans.specs.Prepared.{spans, views, filled}
use Rattle.spans.proofs.blocks.prepare_lanes.Given as goal

-- the lanes passed have their sub-blocks
abbrev pub invariant-loop-index : goal.invariant-loop-index
invariant-loop-index l =
    Each l.lanes 0 l.index
    (λ j. filled l.block.mode0 l.block.mode1 l.block.factor l.block.frames l.block.rate l.block.curve (controls_of l.lanes j l.block.frames (control_lists l.controls)) l.rows)
    (views l.lanes (spans l.initial.inner l.initial.stretch l.initial.add)) (views l.lanes (spans l.inner l.stretch l.add))
