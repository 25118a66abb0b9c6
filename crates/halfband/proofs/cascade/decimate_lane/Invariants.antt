use Prim.Native.Nat.{ℕ, ◌+◌}
use lib.Ieee.{Float}
use Rattle.grid.specs.Lanes.{Each}
use Rattle.halfband.specs.Halfband.{View, views}
use Rattle.halfband.specs.Floats.{floats}
use Rattle.halfband.specs.Decimated.{lane_part}
use Rattle.halfband.proofs.cascade.decimate_lane.Given as goal

-- what the stages that are left would make of the buffers as they are is what all the stages make of them as they were
abbrev pub invariant-loop-from_last : goal.invariant-loop-from_last
invariant-loop-from_last l =
    (w : ℕ → View Float)
    → Each l.lane.lanes l.lane.index (l.lane.index + 1) (λ _. lane_part l.designs l.from_last l.frames) (views floats l.lane.lanes l.buffer l.state) w
    → Each l.lane.lanes l.lane.index (l.lane.index + 1) (λ _. lane_part l.designs l.stages l.frames) (views floats l.lane.lanes l.initial.buffer l.initial.state) w
