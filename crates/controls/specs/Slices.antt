-- The slices that drive both slots, by their lists. Definitions only.
use Rattle.controls.specs.declared.slices.ControlSlices.{ControlSlices}
use Rattle.controls.specs.Controls.{ControlBuffers, control_buffers}

abbrev pub control_lists : ControlSlices → ControlBuffers
control_lists c = control_buffers c.base0.now c.base1.now c.mod0.now c.mod1.now c.source0.now c.source1.now
