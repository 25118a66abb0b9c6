-- The most reads are reached: with OddEven in both slots every list counts four, whatever else a block has. Assumes
-- nothing.
use mathlib.Core.Path.{◌≡◌, refl, ◌∙◌}
use mathlib.Core.Bool.{false}
use mathlib.Core.List.{List, [], ◌∷◌}
use Prim.Native.Nat.{ℕ, ◌+◌, ◌*◌}
use native.Mathlib.Omega.{arith}
use lib.ListN.{length, replicate, length-replicate}
use lib.Ieee.{Float}
use Rattle.floats.specs.F32.{0f}
use Rattle.floats.specs.Steps.{◌>>=◌, when◌then◌else◌}
use Rattle.lanes.specs.Numbers.{rust_numbers}
use Rattle.modes.specs.Choice.{case_of}
use Rattle.modes.specs.Table.{stage_of, modulated_of}
use Rattle.reads.specs.declared.lists.LaneReads.{LaneReads}
use Rattle.reads.specs.Reads.{start_of, empty_of, weighted_of, push_of, outgoing_of}
use Rattle.phase.specs.declared.map.Slot.{Slot}
use Rattle.phase.specs.Map.{odd_even_map, map_of, mapped, emptied, apply_of}
use Rattle.wave.specs.Slot.{is_modulated}
use Rattle.voice.specs.declared.control.Control.{Control}
use Rattle.voice.specs.PhaseRun.{in_phase, map_slot, moved_of, list_of, reads_of, offset_if}
use Rattle.limits.specs.Lengths.{host_length, rendered_length, span_length, pairs_length, carry_length, last_length, state_length, shorter}
use Rattle.limits.proofs.LengthLaws.{not_short}
use Rattle.controls.specs.Controls.{control_buffers}
use Rattle.halfband.specs.declared.design.Design.{Design}
use Rattle.shaper.specs.declared.settings.Range.{Range}
use Rattle.shaper.specs.Lane.{reads_at}
use Rattle.render.specs.declared.state.BlockSettings.{BlockSettings}
use Rattle.render.specs.declared.state.Voice.{Voice}
use Rattle.render.specs.Lane.{Lent, Inputs}
use Rattle.share.specs.Share.{Buffers}
use Rattle.block.specs.declared.refusal.CallNumbers.{CallNumbers}
use Rattle.block.specs.Refusal.{reads_short, block_refusal}
use Rattle.block.specs.Call.{Call, call_numbers, read_lengths, write_lengths, refusal_of}
use Rattle.cuts.proofs.Made.{made, met_by}
use Rattle.plan.specs.declared.needs.BlockNumbers.{BlockNumbers}
use Rattle.plan.specs.Plan.{plan_refusal, most_reads, needed}
use Rattle.plan.specs.OneRange.{OneRange}
use Rattle.plan.specs.Reads.{list_at, list_reads, cycle_reads, lane_reads, block_reads, Most}
use Rattle.plan.specs.Sizes.{AsPlanned, ByThese}
use Rattle.plan.proofs.SumLaws.{sum_same, sum_const}
use Rattle.plan.proofs.SizeLaws.{sizes_least}
use Rattle.plan.proofs.ReadLaws.{never_more, four_each}

abbrev odd_even : Float → Slot
odd_even character = record { mode = 16; character = character }

-- ---- a list

-- two reads of one, and four of two
list_four : (sk ak curve : List Float) (character0 character1 : Float) (factor : ℕ) (scale : Float) (control0 control1 : Control) (inner : Float) (word step : ℕ) (fm0 fm1 : Float)
    → (reads_of sk ak curve (odd_even character0) (odd_even character1) factor scale control0 control1 inner word step fm0 fm1).reads.count ≡ 4
unfolding reads_of list_of map_slot moved_of offset_if in_phase is_modulated apply_of mapped emptied empty_of start_of map_of case_of odd_even_map weighted_of push_of outgoing_of stage_of modulated_of ◌>>=◌ when◌then◌else◌
list_four sk ak curve character0 character1 factor scale control0 control1 inner word step fm0 fm1 = refl

-- ---- a lane, by any count that is four where a list has four reads

module _ (b : BlockSettings) (character0 character1 : Float) (slot0 : b.shaper.slot0 ≡ odd_even character0) (slot1 : b.shaper.slot1 ≡ odd_even character1) where
  pub every_list : (i : Inputs) (q : ℕ) (v : Voice) → (list_at b i q v).count ≡ 4
  unfolding list_at reads_at ◌>>=◌
  every_list i q v = rw (slot0, slot1) (list_four _ _ _ character0 character1 _ _ _ _ _ _ _ _ _)

  module _ (of : LaneReads → ℕ) (four : (r : LaneReads) → r.count ≡ 4 → of r ≡ 4) where
    lane_reached : (i : Inputs) (q : ℕ) (v : Voice) (k : ℕ) → lane_reads of b i q v k ≡ k * 4
    unfolding lane_reads
    lane_reached i q v k = sum_same k _ (λ _. 4) (λ j h. four _ (every_list i (q + j) _)) ∙ sum_const k 4

-- ---- a block of given numbers

module _ (b : BlockNumbers) where
  -- a design of so many sections
  abbrev design : ℕ → Design
  design count = record { coefs = replicate 12 0f; count = count }

  unfoldable settings : BlockSettings
  settings =
      record {
        shaper = record { slot0 = odd_even 0f; slot1 = odd_even 0f; factor = b.factor; lanes = b.lanes; frames = b.frames; numbers = rust_numbers };
        rate = 48000;
        designs = record { stages = design b.count0 ∷ design b.count1 ∷ design b.count2 ∷ [] };
      }

  abbrev whole : Range
  whole = record { first = 0; count = b.frames }

  unfoldable lent : Lent
  lent =
      record {
        controls = control_buffers (replicate b.lanes 0f) (replicate b.lanes 0f) [] [] [] [];
        curve = replicate 1025 0f;
        cycle = replicate 2048 0f;
        words = replicate (rendered_length b.frames b.factor b.lanes) 0;
        steps = replicate (rendered_length b.frames b.factor b.lanes) 0;
        inner = replicate (span_length b.frames b.lanes) 0f;
      }

  unfoldable before : Buffers
  before =
      record {
        output = replicate (host_length b.frames b.lanes) 0f;
        work = replicate (rendered_length b.frames b.factor b.lanes) 0f;
        pairs = replicate (pairs_length b.lanes) 0f;
        fm = replicate (carry_length b.lanes) 0f;
        last = replicate (last_length b.lanes) 0f;
        dec = replicate (state_length b.lanes) 0f;
      }

  abbrev numbers : CallNumbers
  numbers = call_numbers settings whole b.active

  one_range : OneRange b numbers
  unfolding settings
  one_range = record { lanes = refl; active = refl; factor = refl; frames = refl; first = refl; count = refl; count0 = refl; count1 = refl; count2 = refl }

  -- replicated buffers are long enough
  long : {A : Type 0} (k : ℕ) (x : A) → shorter k (length (replicate k x)) ≡ false
  long k x = not_short k (length (replicate k x)) (rw length-replicate (omega arith))

  lent_whole : reads_short numbers (read_lengths 36 13 lent) ≡ false
  unfolding settings lent
  lent_whole = rw (long b.lanes 0f, long {A = ℕ} (rendered_length b.frames b.factor b.lanes) 0, long (span_length b.frames b.lanes) 0f)

  by_these : ByThese numbers (read_lengths 36 13 lent) (write_lengths before)
  unfolding settings lent before
  by_these = record { modes = refl; rate = refl; read = lent_whole; output = rw length-replicate (omega arith) }

  held : AsPlanned (needed b) (write_lengths before)
  unfolding needed before
  held =
      record {
        work = rw length-replicate (omega arith);
        state = rw length-replicate (omega arith);
        pairs = rw length-replicate (omega arith);
        fm = rw length-replicate (omega arith);
        last = rw length-replicate (omega arith);
      }

  reaching : Call
  reaching = made settings whole b.active 36 13 lent before

  module _ (of : LaneReads → ℕ) (four : (r : LaneReads) → r.count ≡ 4 → of r ≡ 4) where
    block_reached : block_reads of reaching ≡ most_reads b
    unfolding block_reads most_reads reaching settings
    block_reached =
        sum_same b.active _ (λ _. b.frames * b.factor * 4) (λ lane h. lane_reached settings 0f 0f refl refl of four _ _ _ (b.frames * b.factor))
        ∙ sum_const b.active (b.frames * b.factor * 4) ∙ four_each b

  module _ (ok : plan_refusal b ≡ 0) where
    accepts : block_refusal numbers (read_lengths 36 13 lent) (write_lengths before) ≡ 0
    accepts = (sizes_least b ok).enough numbers _ _ one_range by_these held

    pub most_reads_lem : Most b (most_reads b)
    unfolding reaching refusal_of
    most_reads_lem =
        record {
          never = never_more b;
          reaching = reaching;
          block = one_range;
          accepted = accepts;
          meets = met_by settings whole b.active 36 13 lent before;
          listed = block_reached list_reads (λ r e. e);
          read = block_reached cycle_reads (λ r e. rw e);
        }
