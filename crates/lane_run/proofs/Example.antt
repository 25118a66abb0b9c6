-- The block of cuts' Example with both its lanes active: made by lanes in both orders; one lane through it in two ranges, also with calls
-- for other lanes in front; and lanes' numbers. Assumes nothing.
use mathlib.Core.Path.{◌≡◌, refl, ◌∙◌}
use mathlib.Core.Bool.{Bool, true, false, cond}
use mathlib.Core.List.{[], ◌∷◌}
use Prim.Native.Nat.{ℕ, suc}
use native.Mathlib.Omega.{arith}
use lib.Dec.{eqb}
use Rattle.grid.specs.Lanes.{times, Once}
use Rattle.limits.specs.Lines.{first_of}
use Rattle.limits.specs.Lengths.{spans_of}
use Rattle.halfband.specs.Floats.{card_designs}
use Rattle.halfband.specs.Ranges.{total}
use Rattle.block.specs.declared.refusal.CallNumbers.{CallNumbers}
use Rattle.block.specs.Refusal.{block_refusal}
use Rattle.block.specs.Call.{Call, call_numbers, read_lengths, write_lengths}
use Rattle.share.specs.Share.{Buffers}
use Rattle.cuts.specs.Cuts.{state_of, entering, leaving, kept_back, RunA, output_of}
use Rattle.cuts.proofs.Made.{made, met_by}
use Rattle.cuts.proofs.Runs.{range, whole}
use Rattle.cuts.proofs.Example.{settings, lent, before}
use Rattle.lane_run.specs.LaneCall.{lane_refusal, lane_refusal_of}
use Rattle.lane_run.specs.LaneCuts.{lane_run_call, ByLanes, refused, other, output_by, Demand3ByLanes}
use Rattle.lane_run.proofs.LaneMade.{lane_leaves, made_lane, lane_met, lanes_leave, lanes_leave_lem, down_from, each_once, lane_parts, lane_parts_leave, parts_from, lane_parts_lem}
use Rattle.lane_run.proofs.LaneCuts.{cuts_by_lanes}

-- ---- both orders

pub both : Call
both = made settings (range 0 6) 2 36 13 lent before

-- the last lane first, and the first
falling : Once 0 2 (1 ∷ 0 ∷ [])
unfolding down_from
falling = each_once 2

swapped : (m a b : ℕ) → times m (b ∷ a ∷ []) ≡ times m (a ∷ b ∷ [])
unfolding times
swapped m a b = go (eqb m a) (eqb m b)
  where
    go : (x y : Bool) → cond y (suc (cond x 1 0)) (cond x 1 0) ≡ cond x (suc (cond y 1 0)) (cond y 1 0)
    go true true = refl
    go true false = refl
    go false true = refl
    go false false = refl

rising : Once 0 2 (0 ∷ 1 ∷ [])
rising =
    record {
      inside = λ m lo hi. swapped m 1 0 ∙ falling.inside m lo hi;
      outside = λ m free. swapped m 1 0 ∙ falling.outside m free;
    }

pub first_to_last : lanes_leave both (0 ∷ 1 ∷ []) before ≡ both.after
unfolding both
first_to_last = lanes_leave_lem both (0 ∷ 1 ∷ []) (met_by _ _ _ _ _ _ _) rising

pub last_to_first : lanes_leave both (1 ∷ 0 ∷ []) before ≡ both.after
unfolding both
last_to_first = lanes_leave_lem both (1 ∷ 0 ∷ []) (met_by _ _ _ _ _ _ _) falling

-- ---- one lane through the block in two ranges, and demand 3 speaks of it

passes_all : block_refusal (call_numbers settings (range 0 6) 2) (read_lengths 36 13 lent) (write_lengths before) ≡ 0
unfolding settings lent before block_refusal first_of card_designs spans_of
passes_all = refl

both_run : RunA both 1
unfolding both settings
both_run = whole settings 2 36 13 lent before 1 passes_all (omega arith)

pub traced : (output_by 1 (lane_parts both 1 0 before (4 ∷ 2 ∷ [])) ≡ output_of 1 (both ∷ []))
    × (state_of 2 1 (lane_parts_leave both 1 0 before (4 ∷ 2 ∷ [])) ≡ leaving both 1)
unfolding Demand3ByLanes both settings total
traced = cuts_by_lanes both 1 _ _ both_run (lane_parts_lem both 1 both_run (4 ∷ 2 ∷ []) refl)

-- the same with a call for a lane that is not active in front, and one for the other lane
abbrev lane0 : Buffers
lane0 = lane_leaves both 0 before

not_active : lane_refusal_of (made_lane both 2 before) 2 ≡ 3
unfolding both settings lent before lane_refusal_of lane_refusal first_of card_designs spans_of
not_active = refl

lane_0_passes : lane_refusal_of (made_lane both 0 before) 0 ≡ 0
unfolding both settings lent before lane_refusal_of lane_refusal first_of card_designs spans_of
lane_0_passes = refl

between : ByLanes both 1 0 (entering both 1)
    (lane_run_call 2 (made_lane both 2 before) ∷ lane_run_call 0 (made_lane both 0 before) ∷ lane_parts both 1 0 lane0 (4 ∷ 2 ∷ []))
    (state_of 2 1 (lane_parts_leave both 1 0 lane0 (4 ∷ 2 ∷ [])))
unfolding both settings total
between =
    refused (lane_run_call 2 (made_lane both 2 before)) (lane_met both 2 before) (λ ok. omega (arith, not_active))
    (record { size = refl; cells = λ i h. kept_back refl })
    (other 0 (made_lane both 0 before) (lane_met both 0 before) lane_0_passes (λ e. omega arith) (omega arith) refl
    (parts_from both 1 both_run 0 lane0 (4 ∷ 2 ∷ []) refl (lane_met both 0 before).sizes))

pub traced_between : state_of 2 1 (lane_parts_leave both 1 0 lane0 (4 ∷ 2 ∷ [])) ≡ leaving both 1
unfolding Demand3ByLanes
traced_between = (cuts_by_lanes both 1 _ _ both_run between).1

-- ---- numbers

-- the block's, with some of them changed
abbrev asked : ℕ → ℕ → ℕ → ℕ → CallNumbers
asked mode0 factor active frames =
    record {
      mode0 = mode0;
      mode1 = 69;
      factor = factor;
      lanes = 2;
      active = active;
      frames = frames;
      first = 0;
      count = 6;
      rate = 48000;
      count0 = 10;
      count1 = 6;
      count2 = 5;
    }

abbrev number : ℕ → CallNumbers → ℕ
number lane call = lane_refusal lane call (read_lengths 36 13 lent) (write_lengths before)

pub active_lane : number 1 (asked 1 4 2 6) ≡ 0
unfolding lent before lane_refusal first_of spans_of
active_lane = refl

pub idle_lane : number 2 (asked 1 4 2 6) ≡ 3
unfolding lane_refusal first_of
idle_lane = refl

pub no_lane_active : number 0 (asked 1 4 0 6) ≡ 3
unfolding lane_refusal first_of
no_lane_active = refl

-- lines 1 and 2 come before it, and line 4 after it
pub idle_mode : number 2 (asked 70 4 2 6) ≡ 1
unfolding lane_refusal first_of
idle_mode = refl

pub idle_factor : number 2 (asked 1 3 2 6) ≡ 2
unfolding lane_refusal first_of
idle_factor = refl

pub idle_frames : number 2 (asked 1 4 2 4097) ≡ 3
unfolding lane_refusal first_of
idle_frames = refl

pub active_frames : number 1 (asked 1 4 2 4097) ≡ 4
unfolding lane_refusal first_of
active_frames = refl
