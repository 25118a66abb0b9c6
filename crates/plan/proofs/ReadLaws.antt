-- A block run reads the cycle at most four times for each rendered frame of each active lane. Assumes nothing.
use mathlib.Core.Path.{◌≡◌, refl}
use mathlib.Core.Bool.{Bool, true, false, ◌||◌}
use mathlib.Core.List.{List}
use Prim.Native.Nat.{ℕ, ◌+◌, ◌*◌, ◌/◌, ◌%◌, ◌≤◌}
use native.Mathlib.Nat.{mul_assoc, mul_comm}
use native.Mathlib.Omega.{arith}
use lib.ListN.{get_or}
use lib.Ieee.{Float}
use Rattle.floats.specs.Steps.{◌>>=◌, when◌then◌else◌}
use Rattle.reads.specs.declared.lists.LaneReads.{LaneReads}
use Rattle.reads.specs.Reads.{one_read, read_sum}
use Rattle.reads.proofs.Few.{outgoing_few, start_few}
use Rattle.phase.specs.declared.map.Slot.{Slot}
use Rattle.voice.specs.declared.control.Control.{Control}
use Rattle.voice.specs.declared.phase_run.Reads.{Reads}
use Rattle.voice.specs.PhaseRun.{in_phase, list_of, reads_of}
use Rattle.voice.proofs.Counts.{mapped_few, moved_few}
use Rattle.shaper.specs.Lane.{reads_at, shaped_at}
use Rattle.render.specs.declared.state.BlockSettings.{BlockSettings}
use Rattle.render.specs.declared.state.Voice.{Voice}
use Rattle.render.specs.Lane.{Inputs, step_at}
use Rattle.block.specs.Call.{Call}
use Rattle.plan.specs.declared.needs.BlockNumbers.{BlockNumbers}
use Rattle.plan.specs.Plan.{most_reads}
use Rattle.plan.specs.OneRange.{Makes}
use Rattle.plan.specs.Reads.{list_at, list_reads, cycle_reads, lane_reads, block_reads}
use Rattle.plan.proofs.SumLaws.{sum_most}

-- ---- a list

list_few : (sk ak curve : List Float) (slot0 slot1 : Slot) (factor : ℕ) (scale : Float) (control0 control1 : Control) (inner : Float) (word : ℕ) (increment fm0 fm1 : Float)
    → (list_of sk ak curve slot0 slot1 factor scale control0 control1 inner word increment fm0 fm1).reads.count ≤ 4
unfolding list_of ◌>>=◌
list_few sk ak curve slot0 slot1 factor scale control0 control1 inner word increment fm0 fm1 =
    outgoing_few _
    (moved_few slot0.mode control0 scale increment _ fm0
    (moved_few slot1.mode control1 scale increment _ fm1
    (mapped_few sk ak curve slot0 control0 _ _ (mapped_few sk ak curve slot1 control1 _ _ (start_few word)))))

one_few : (word : ℕ) → (one_read word).count ≤ 4
unfolding one_read
one_few word = omega arith

either : (P : Reads → Type 0) (t : Bool) (x y : Reads) → P x → P y → P (when t then x else y)
unfolding when◌then◌else◌
either P true x y p q = p
either P false x y p q = q

pub reads_few : (sk ak curve : List Float) (slot0 slot1 : Slot) (factor : ℕ) (scale : Float) (control0 control1 : Control) (inner : Float) (word step : ℕ) (fm0 fm1 : Float)
    → (reads_of sk ak curve slot0 slot1 factor scale control0 control1 inner word step fm0 fm1).reads.count ≤ 4
unfolding reads_of ◌>>=◌
reads_few sk ak curve slot0 slot1 factor scale control0 control1 inner word step fm0 fm1 =
    either (λ (r : Reads). r.reads.count ≤ 4) (in_phase slot0.mode || in_phase slot1.mode) _ _
    (list_few sk ak curve slot0 slot1 factor scale control0 control1 inner word _ fm0 fm1) (one_few word)

pub list_few_at : (b : BlockSettings) (i : Inputs) (q : ℕ) (v : Voice) → (list_at b i q v).count ≤ 4
unfolding list_at reads_at ◌>>=◌
list_few_at b i q v =
    reads_few b.shaper.numbers.sin b.shaper.numbers.atan i.curve b.shaper.slot0 b.shaper.slot1 b.shaper.factor _ _ _ _ _ _ v.fm0 v.fm1

-- the list whose reads the run sums for its sample
pub list_summed : (b : BlockSettings) (i : Inputs) (q : ℕ) (v : Voice)
    → (step_at b i q v).sample
    ≡ (shaped_at b.shaper i.controls (q / b.shaper.factor) (q % b.shaper.factor) (get_or i.steps q 0) (read_sum i.cycle (list_at b i q v)) v.pairs0 v.pairs1 v.last).y
unfolding step_at list_at ◌>>=◌
list_summed b i q v = refl

-- ---- a block, by any count that gives a list of at most four reads no more than four

module _ (of : LaneReads → ℕ) (fits : (r : LaneReads) → r.count ≤ 4 → of r ≤ 4) where
  lane_most : (b : BlockSettings) (i : Inputs) (q : ℕ) (v : Voice) (k : ℕ) → lane_reads of b i q v k ≤ k * 4
  unfolding lane_reads
  lane_most b i q v k = sum_most k 4 _ (λ j h. fits _ (list_few_at b i (q + j) _))

  block_most : (b : BlockNumbers) (c : Call) → Makes b c → block_reads of c ≤ b.active * (b.frames * b.factor * 4)
  unfolding block_reads
  block_most b c is =
      rw (← is.active, ← is.count, ← is.factor) (sum_most c.active _ _ (λ lane h. lane_most c.settings _ _ _ _))

-- four a list
pub four_each : (b : BlockNumbers) → b.active * (b.frames * b.factor * 4) ≡ 4 * (b.active * (b.frames * b.factor))
four_each b = rw (← mul_assoc b.active (b.frames * b.factor) 4, mul_comm (b.active * (b.frames * b.factor)) 4)

four_most : (b : BlockNumbers) → b.active * (b.frames * b.factor * 4) ≤ most_reads b
unfolding most_reads
four_most b = omega (arith, four_each b)

pub never_more : (b : BlockNumbers) (c : Call) → Makes b c → (block_reads list_reads c ≤ most_reads b) × (block_reads cycle_reads c ≤ most_reads b)
never_more b c is =
    let listed = block_most list_reads (λ r h. h) b c is in
    let read = block_most cycle_reads (λ r h. omega arith) b c is in
    (omega (arith, listed, four_most b), omega (arith, read, four_most b))
