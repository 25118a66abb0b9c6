-- The block run and a lane's in one: of a lane it is that lane's, of none the run. Definitions only.
use Rattle.std.specs.Prelude.{ℕ, ◌+◌, cond, eqb, Option, Some, None}
use Rattle.block.specs.declared.refusal.CallNumbers.{CallNumbers}
use Rattle.block.specs.declared.refusal.ReadLengths.{ReadLengths}
use Rattle.block.specs.declared.refusal.WriteLengths.{WriteLengths}
use Rattle.block.specs.Refusal.{block_refusal}
use Rattle.block.specs.Call.{Call, Meets}
use Rattle.lane_run.specs.declared.either.Interval.{Interval}
use Rattle.lane_run.specs.LaneCall.{lane_refusal, LaneMeets}

-- by the run's number, the number of a lane's call whose lane is not active: lines 1 and 2 come before line 3
abbrev pub third_of : ℕ → ℕ
third_of number = cond (eqb number 1) 1 (cond (eqb number 2) 2 3)

-- the number by the table
abbrev pub either_refusal : Option ℕ → CallNumbers → ReadLengths → WriteLengths → ℕ
either_refusal (Some lane) call reads writes = lane_refusal lane call reads writes
either_refusal None call reads writes = block_refusal call reads writes

-- the lanes that have their share
abbrev pub interval_of : Option ℕ → ℕ → Interval
interval_of (Some lane) active = record { from = lane; to = lane + 1 }
interval_of None active = record { from = 0; to = active }

-- what it promises
abbrev pub EitherMeets : Option ℕ → Call → Type 0
EitherMeets (Some lane) c = LaneMeets c lane
EitherMeets None c = Meets c
