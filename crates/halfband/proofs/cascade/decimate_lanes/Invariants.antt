use Rattle.grid.specs.Lanes.{Each}
use Rattle.halfband.specs.Halfband.{views}
use Rattle.halfband.specs.Floats.{floats}
use Rattle.halfband.specs.Decimated.{lane_part}
use Rattle.halfband.proofs.cascade.decimate_lanes.Given as goal

abbrev pub invariant-loop-index : goal.invariant-loop-index
invariant-loop-index l =
    Each l.lanes 0 l.index (λ _. lane_part l.designs l.stages l.frames) (views floats l.lanes l.initial.buffer l.initial.state) (views floats l.lanes l.buffer l.state)
