-- How many reads a block run makes, by its definition: a list for each rendered frame of each active lane.
-- Definitions only.
use Rattle.std.specs.Prelude.{◌≡◌, ℕ, ◌+◌, ◌/◌, ◌%◌, ◌≤◌, max, get_or}
use Rattle.reads.specs.declared.lists.LaneReads.{LaneReads}
use Rattle.shaper.specs.Lane.{reads_at}
use Rattle.render.specs.declared.state.BlockSettings.{BlockSettings}
use Rattle.render.specs.declared.state.Voice.{Voice}
use Rattle.render.specs.Lane.{Inputs, voice_after, first_frame, frame_count}
use Rattle.share.specs.Share.{columns_of, enters}
use Rattle.block.specs.Call.{Call, Meets, lanes_of, inputs, refusal_of}
use Rattle.plan.specs.declared.needs.BlockNumbers.{BlockNumbers}
use Rattle.plan.specs.Sums.{sum}
use Rattle.plan.specs.OneRange.{Makes}

-- the list of rendered frame q, as `step_at` takes it
unfoldable pub list_at : BlockSettings → Inputs → ℕ → Voice → LaneReads
list_at b i q v =
    (reads_at b.shaper b.rate i.controls i.curve i.inner (q / b.shaper.factor) (q % b.shaper.factor)
    (get_or i.words q 0) (get_or i.steps q 0) v.fm0 v.fm1 v.last).reads

-- the reads that a list counts
abbrev pub list_reads : LaneReads → ℕ
list_reads r = r.count

-- and those that the run makes of it: count 0 reads its first word
abbrev pub cycle_reads : LaneReads → ℕ
cycle_reads r = max r.count 1

-- of a lane's k rendered frames from q on, counted one way or the other
unfoldable pub lane_reads : (LaneReads → ℕ) → BlockSettings → Inputs → ℕ → Voice → ℕ → ℕ
lane_reads of b i q v k = sum k (λ j. of (list_at b i (q + j) (voice_after b i q v j)))

-- of a call: its active lanes over its range
unfoldable pub block_reads : (LaneReads → ℕ) → Call → ℕ
block_reads of c =
    sum c.active
    (λ lane. lane_reads of c.settings (inputs c lane) (first_frame c.settings c.range) (enters (columns_of (lanes_of c) c.before lane)) (frame_count c.settings c.range))

-- No block of these numbers reads the cycle more often, and an accepted one that meets the run's contract reads it so
-- often; by either count.
pub record Most (b : BlockNumbers) (most : ℕ) : Type 0 where
  pub never : (c : Call) → Makes b c → (block_reads list_reads c ≤ most) × (block_reads cycle_reads c ≤ most)
  pub reaching : Call
  pub block : Makes b reaching
  pub accepted : refusal_of reaching ≡ 0
  pub meets : Meets reaching
  pub listed : block_reads list_reads reaching ≡ most
  pub read : block_reads cycle_reads reaching ≡ most
