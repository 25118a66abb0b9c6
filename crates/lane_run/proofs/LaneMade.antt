-- There are such calls: for any arguments, buffers and lane one that meets the contract, for any list of lanes calls one after another,
-- for any number of active lanes a list that has each once, and for any cuts of a block a Run B by a lane's calls. Assumes nothing.
use mathlib.Core.Path.{◌≡◌, refl, sym, ◌∙◌}
use mathlib.Core.Bool.{Bool, cond}
use mathlib.Core.List.{List, [], ◌∷◌}
use Prim.Native.Nat.{ℕ, zero, suc, ◌+◌, ◌≤◌, ◌<◌}
use native.Mathlib.Decide.{ℕ_discrete, dec_lt}
use native.Mathlib.Nat.{zero-add, add-zero, add_assoc}
use native.Mathlib.Omega.{arith}
use lib.Dec.{eqb}
use borrow.Author.Tests.{eq-eqb, ne_eqb}
use Rattle.grid.specs.Lanes.{times, Once}
use Rattle.grid.proofs.EachLaws.{each_one}
use Rattle.grid.proofs.OrderLaws.{times_nil, times_same, times_other}
use Rattle.halfband.specs.Ranges.{total}
use Rattle.limits.specs.declared.answers.Answer.{Answer}
use Rattle.share.specs.Share.{Buffers}
use Rattle.block.specs.Call.{Call, Meets, call_numbers, read_lengths, write_lengths, refusal_of, lanes_of}
use Rattle.cuts.specs.Cuts.{state_of, entering, RunA}
use Rattle.cuts.proofs.Runs.{part, part_accepted}
use Rattle.cuts.proofs.Made.{shared_after, shared_on, shared_off, shared_refused, shared_sizes}
use Rattle.lane_run.specs.LaneCall.{lane_refusal, lane_refusal_of, LaneMeets}
use Rattle.lane_run.specs.Orders.{with_buffers, LaneCalls, no_lane, lane_then, AnyOrder}
use Rattle.lane_run.specs.LaneCuts.{AnyCall, lane_run_call, ByLanes, done, taken}
use Rattle.lane_run.proofs.LaneLaws.{number_active, lane_taken}
use Rattle.lane_run.proofs.Orders.{in_any_order}

-- ---- one call

-- a call for a lane with the arguments of run c, in the buffers w
module _ (c : Call) (lane : ℕ) (w : Buffers) where
  abbrev number : ℕ
  number = lane_refusal lane (call_numbers c.settings c.range c.active) (read_lengths c.coefs c.numbers c.lent) (write_lengths w)

  abbrev only : ℕ → Bool
  only l = eqb l lane

  abbrev pub lane_leaves : Buffers
  lane_leaves = shared_after c.settings c.range c.lent w number only

  abbrev pub lane_answers : Answer
  lane_answers = record { number = number; frames = cond (eqb number 0) c.range.count 0 }

  abbrev pub made_lane : Call
  made_lane = with_buffers c w lane_leaves lane_answers

  pub lane_met : LaneMeets made_lane lane
  unfolding lane_refusal_of
  lane_met =
      record {
        number = refl;
        frames = refl;
        refused = shared_refused c.settings c.range c.lent w number only;
        share = λ ok. let taken = lane_taken c.settings c.range c.active lane c.coefs c.numbers c.lent w ok in
            each_one
            (shared_on c.settings c.range c.lent w number only ok taken lane (omega (arith, taken.actives)) (eq-eqb lane lane refl))
            (λ l low ne. shared_off c.settings c.range c.lent w number only ok taken l low (ne_eqb l lane ne));
        sizes = shared_sizes c.settings c.range c.lent w number only;
      }

-- ---- calls one after another

-- what they leave
unfoldable pub lanes_leave : Call → List ℕ → Buffers → Buffers
lanes_leave c [] w = w
lanes_leave c (lane ∷ lanes) w = lanes_leave c lanes (lane_leaves c lane w)

pub lanes_met : (c : Call) (lanes : List ℕ) (w : Buffers) → LaneCalls c lanes w (lanes_leave c lanes w)
unfolding lanes_leave
lanes_met c [] w = no_lane
lanes_met c (lane ∷ lanes) w = lane_then (lane_met c lane w) (lanes_met c lanes (lane_leaves c lane w))

-- so for any run and any order there are calls that leave what it leaves
pub lanes_leave_lem : (c : Call) (lanes : List ℕ) → Meets c → Once 0 c.active lanes → lanes_leave c lanes c.before ≡ c.after
unfolding AnyOrder
lanes_leave_lem c lanes m once = in_any_order c lanes _ m once (lanes_met c lanes c.before)

-- ---- an order

-- the lanes below a number, the last one first
unfoldable pub down_from : ℕ → List ℕ
down_from zero = []
down_from (suc n) = n ∷ down_from n

none_from : (n m : ℕ) → n ≤ m → times m (down_from n) ≡ 0
unfolding down_from
none_from zero m h = times_nil m
none_from (suc n) m h = times_other m n (down_from n) (λ e. omega arith) ∙ none_from n m (omega arith)

one_below : (n m : ℕ) → m < n → times m (down_from n) ≡ 1
unfolding down_from
one_below zero m h = absurd (omega arith)
one_below (suc n) m h = go (ℕ_discrete m n) (one_below n m)
  where
    go : Dec (m ≡ n) → (m < n → times m (down_from n) ≡ 1) → times m (n ∷ down_from n) ≡ 1
    go (yes e) below = rw e (times_same n (down_from n) ∙ rw (none_from n n (omega arith)))
    go (no ne) below = times_other m n (down_from n) ne ∙ below (omega arith)

pub each_once : (n : ℕ) → Once 0 n (down_from n)
each_once n = record { inside = λ m lo hi. one_below n m hi; outside = λ m free. none_from n m (omega (arith, above m free)) }
  where
    above : (m : ℕ) → (0 ≤ m → m < n → ⊥) → n ≤ m
    above m free = go (dec_lt m n)
      where
        go : Dec (m < n) → n ≤ m
        go (yes h) = absurd (free (omega arith) h)
        go (no h) = omega arith

-- ---- Run B by lanes' calls

-- the lane's calls for parts of a block one after another, each in the buffers that the one before left
unfoldable pub lane_parts : Call → ℕ → ℕ → Buffers → List ℕ → List AnyCall
lane_parts a lane at before [] = []
lane_parts a lane at before (k ∷ ks) =
    let c = part a at k before in
    lane_run_call lane (made_lane c lane before) ∷ lane_parts a lane (at + k) (lane_leaves c lane before) ks

-- and what they leave
unfoldable pub lane_parts_leave : Call → ℕ → ℕ → Buffers → List ℕ → Buffers
lane_parts_leave a lane at before [] = before
lane_parts_leave a lane at before (k ∷ ks) = lane_parts_leave a lane (at + k) (lane_leaves (part a at k before) lane before) ks

module _ (a : Call) (lane : ℕ) (w : RunA a lane) where
  abbrev F : ℕ
  F = a.settings.shaper.frames

  part_number : (at k : ℕ) (before : Buffers) → at + k ≤ F → write_lengths before ≡ write_lengths a.before
      → lane_refusal_of (made_lane (part a at k before) lane before) lane ≡ 0
  unfolding refusal_of
  part_number at k before fit size =
      number_active (made_lane (part a at k before) lane before) lane w.active ∙ part_accepted a lane w at k before fit size

  pub parts_from : (at : ℕ) (before : Buffers) (ks : List ℕ) → at + total ks ≡ F → write_lengths before ≡ write_lengths a.before
      → ByLanes a lane at (state_of (lanes_of a) lane before) (lane_parts a lane at before ks)
      (state_of (lanes_of a) lane (lane_parts_leave a lane at before ks))
  unfolding lane_parts lane_parts_leave total
  parts_from at before [] fit size = done (sym (add-zero at) ∙ fit) refl
  parts_from at before (k ∷ ks) fit size =
      let c = part a at k before in
      taken (lane_run_call lane (made_lane c lane before)) (lane_met c lane before) (part_number at k before (omega arith) size) refl
      (record { settings = refl; inputs = refl; active = w.active }) refl refl
      (parts_from (at + k) (lane_leaves c lane before) ks (add_assoc at k (total ks) ∙ fit) ((lane_met c lane before).sizes ∙ size))

  -- a lane taken through a block in any parts, and no other
  pub lane_parts_lem : (ks : List ℕ) → total ks ≡ F
      → ByLanes a lane 0 (entering a lane) (lane_parts a lane 0 a.before ks)
      (state_of (lanes_of a) lane (lane_parts_leave a lane 0 a.before ks))
  lane_parts_lem ks fit = parts_from 0 a.before ks (zero-add _ ∙ fit) refl
