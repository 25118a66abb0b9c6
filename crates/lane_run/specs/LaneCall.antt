-- One lane of a block run as a call of its own, with the run's arguments and a lane: its number, and what it promises. `lane_run`'s
-- contract is `LaneMeets`. Definitions only.
use Rattle.std.specs.Prelude.{ℕ, ◌+◌, ◌≡◌, cond, [], ◌∷◌, eqb}
use Rattle.grid.specs.Lanes.{Each}
use Rattle.limits.specs.Lines.{first_of, bad_modes, bad_factor, bad_lane, bad_range, bad_rate, bad_counts}
use Rattle.share.specs.Share.{columns_of}
use Rattle.block.specs.declared.refusal.CallNumbers.{CallNumbers}
use Rattle.block.specs.declared.refusal.ReadLengths.{ReadLengths}
use Rattle.block.specs.declared.refusal.WriteLengths.{WriteLengths}
use Rattle.block.specs.Refusal.{reads_short, writes_short}
use Rattle.block.specs.Call.{Call, call_numbers, read_lengths, write_lengths, lanes_of, share_of}

-- the block run's lines; 3 is also a single lane that is not active
unfoldable pub lane_refusal : ℕ → CallNumbers → ReadLengths → WriteLengths → ℕ
lane_refusal lane call reads writes =
    first_of
    ((bad_modes call.mode0 call.mode1, 1)
    ∷ (bad_factor call.factor, 2)
    ∷ (bad_lane call.lanes call.active lane, 3)
    ∷ (bad_range call.frames call.first call.count, 4)
    ∷ (bad_rate call.rate, 5)
    ∷ (bad_counts call.count0 call.count1 call.count2, 6)
    ∷ (reads_short call reads, 7)
    ∷ (writes_short call writes, 8)
    ∷ [])

-- the number by the table
unfoldable pub lane_refusal_of : Call → ℕ → ℕ
lane_refusal_of c lane =
    lane_refusal lane (call_numbers c.settings c.range c.active) (read_lengths c.coefs c.numbers c.lent) (write_lengths c.before)

-- a `Call` has the run's arguments. `share` is about every row of all six buffers and of every lane: this lane has its share of the
-- range, and no cell of another is touched
pub record LaneMeets (c : Call) (lane : ℕ) : Type 0 where
  pub number : c.answer.number ≡ lane_refusal_of c lane
  pub frames : c.answer.frames ≡ cond (eqb (lane_refusal_of c lane) 0) c.range.count 0
  pub refused : (lane_refusal_of c lane ≡ 0 → ⊥) → c.after ≡ c.before
  pub share : lane_refusal_of c lane ≡ 0
      → Each (lanes_of c) lane (lane + 1) (share_of c) (columns_of (lanes_of c) c.before) (columns_of (lanes_of c) c.after)
  pub sizes : write_lengths c.after ≡ write_lengths c.before
