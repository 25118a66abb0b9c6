-- The block runs that a plan speaks of. Definitions only.
use Rattle.std.specs.Prelude.{◌≡◌}
use Rattle.block.specs.declared.refusal.CallNumbers.{CallNumbers}
use Rattle.block.specs.Call.{Call, call_numbers}
use Rattle.plan.specs.declared.needs.BlockNumbers.{BlockNumbers}

-- a run of a block of these numbers, made as one range
pub record OneRange (b : BlockNumbers) (call : CallNumbers) : Type 0 where
  pub lanes : call.lanes ≡ b.lanes
  pub active : call.active ≡ b.active
  pub factor : call.factor ≡ b.factor
  pub frames : call.frames ≡ b.frames
  pub first : call.first ≡ 0
  pub count : call.count ≡ b.frames
  pub count0 : call.count0 ≡ b.count0
  pub count1 : call.count1 ≡ b.count1
  pub count2 : call.count2 ≡ b.count2

-- such a run as a call
abbrev pub Makes : BlockNumbers → Call → Type 0
Makes b c = OneRange b (call_numbers c.settings c.range c.active)
