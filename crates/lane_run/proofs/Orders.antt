-- A lane's call beside the block run: it touches no other lane's cells, it answers what the run does and ends for its lane as the run
-- does, and made once for each active lane, in any order, it leaves all buffers as the run does. Assumes nothing.
use mathlib.Core.Path.{◌≡◌, refl, sym, ◌∙◌, ap}
use mathlib.Core.Bool.{cond}
use mathlib.Core.List.{List, [], ◌∷◌}
use Prim.Native.Nat.{ℕ, ◌/◌, ◌%◌, ◌<◌}
use native.Mathlib.Decide.{ℕ_discrete, dec_lt}
use native.Mathlib.Nat.{div-add-mod', mod-lt}
use native.Mathlib.Omega.{arith}
use lib.Dec.{eqb}
use lib.ListN.{get_or}
use lib.Ieee.{Float, nan}
use Rattle.grid.specs.Cells.{col}
use Rattle.grid.specs.Lanes.{times, Once, Calls, no_call, call}
use Rattle.grid.proofs.CellLaws.{col_at, col_of_blk}
use Rattle.grid.proofs.EachLaws.{each_unique, one_lane, one_others}
use Rattle.grid.proofs.OrderLaws.{times_same, times_other, any_order}
use Rattle.limits.specs.declared.answers.Answer.{Answer}
use Rattle.share.specs.Share.{Buffers, Columns, columns_of}
use Rattle.block.specs.declared.refusal.WriteLengths.{WriteLengths}
use Rattle.block.specs.Refusal.{block_refusal}
use Rattle.block.specs.Call.{Call, call_numbers, read_lengths, write_lengths, refusal_of, lanes_of, share_of}
use Rattle.block.proofs.RefusalLaws.{call_taken, call_lanes}
use Rattle.block.proofs.Unique.{buffers_same}
use Rattle.cuts.specs.Cuts.{Which, buffer}
use Rattle.lane_run.specs.LaneCall.{lane_refusal_of, LaneMeets}
use Rattle.lane_run.specs.Orders.{OthersKept, with_buffers, LaneCalls, no_lane, lane_then, AnyOrder, AnswersAsRun, EndsAsRun}
use Rattle.lane_run.proofs.LaneLaws.{number_active, accepted_run}

-- ---- other lanes' cells

-- a lane's column of a buffer, by its columns of all six
pub column_same : (n l : ℕ) (x y : Buffers) → columns_of n x l ≡ columns_of n y l → (b : Which) → col nan n l (buffer b x) ≡ col nan n l (buffer b y)
unfolding columns_of
column_same n l x y e Which.output = ap (λ (v : Columns). v.output) e
column_same n l x y e Which.work = ap (λ (v : Columns). v.work) e
column_same n l x y e Which.pairs = ap (λ (v : Columns). v.pairs) e
column_same n l x y e Which.fm = ap (λ (v : Columns). v.fm) e
column_same n l x y e Which.last = ap (λ (v : Columns). v.last) e
column_same n l x y e Which.dec = col_of_blk nan 24 n l x.dec y.dec (omega arith) (ap (λ (v : Columns). v.dec) e)

pub others_kept : OthersKept
unfolding OthersKept
others_kept c lane did b i free = go (ℕ_discrete (lane_refusal_of c lane) 0)
  where
    -- a cell by its row and its lane
    cell : (xs : List Float) → get_or xs i nan ≡ col nan (lanes_of c) (i % lanes_of c) xs (i / lanes_of c)
    cell xs = ap (λ (k : ℕ). get_or xs k nan) (sym (div-add-mod' i (lanes_of c))) ∙ sym (col_at nan (lanes_of c) (i % lanes_of c) xs (i / lanes_of c))

    go : Dec (lane_refusal_of c lane ≡ 0) → get_or (buffer b c.after) i nan ≡ get_or (buffer b c.before) i nan
    go (yes ok) =
        let low : i % lanes_of c < lanes_of c = mod-lt i (omega (arith, call_lanes c (accepted_run c lane ok))) in
        cell (buffer b c.after)
        ∙ ap (λ (f : ℕ → Float). f (i / lanes_of c))
        (column_same (lanes_of c) (i % lanes_of c) c.after c.before (one_others (did.share ok) (i % lanes_of c) low free) b)
        ∙ sym (cell (buffer b c.before))
    go (no bad) = ap (λ (w : Buffers). get_or (buffer b w) i nan) (did.refused bad)

-- ---- one call

module _ (c : Call) where
  -- in buffers of the run's lengths an active lane's call has the run's number
  lane_number : {w w' : Buffers} {a : Answer} {lane : ℕ} → LaneMeets (with_buffers c w w' a) lane → lane < c.active
      → write_lengths w ≡ write_lengths c.before → lane_refusal_of (with_buffers c w w' a) lane ≡ refusal_of c
  unfolding refusal_of
  lane_number {w} {w'} {a} {lane} did on size =
      number_active (with_buffers c w w' a) lane on
      ∙ ap (λ (k : WriteLengths). block_refusal (call_numbers c.settings c.range c.active) (read_lengths c.coefs c.numbers c.lent) k) size

pub answers_as_run : AnswersAsRun
unfolding AnswersAsRun
answers_as_run c lane w w' a m on size did j = record { number = number j; frames = frames j }
  where
    told : lane_refusal_of (with_buffers c w w' a) lane ≡ refusal_of c
    told = lane_number c did on size

    number : a.number ≡ c.answer.number
    number = did.number ∙ told ∙ sym m.number

    frames : a.frames ≡ c.answer.frames
    frames = did.frames ∙ ap (λ (k : ℕ). cond (eqb k 0) c.range.count 0) told ∙ sym m.frames

pub ends_as_run : EndsAsRun
unfolding EndsAsRun
ends_as_run c lane w w' a m on size same did = go (ℕ_discrete (refusal_of c) 0)
  where
    told : lane_refusal_of (with_buffers c w w' a) lane ≡ refusal_of c
    told = lane_number c did on size

    go : Dec (refusal_of c ≡ 0) → columns_of (lanes_of c) w' lane ≡ columns_of (lanes_of c) c.after lane
    go (yes ok) =
        let low : lane < lanes_of c = omega (arith, on, (call_taken c ok).actives) in
        one_lane (did.share (told ∙ ok)) low ∙ ap (share_of c lane) same ∙ sym ((m.lanes ok).inside lane low (omega arith) on)
    go (no bad) =
        ap (λ (b : Buffers). columns_of (lanes_of c) b lane) (did.refused (λ z. bad (sym told ∙ z)))
        ∙ same ∙ ap (λ (b : Buffers). columns_of (lanes_of c) b lane) (sym (m.refused bad))

-- ---- calls for a list of lanes, all of which are active

abbrev Below : ℕ → List ℕ → Type 0
Below active lanes = (m : ℕ) → (times m lanes ≡ 0 → ⊥) → m < active

once_below : (active : ℕ) (lanes : List ℕ) → Once 0 active lanes → Below active lanes
once_below active lanes once m some = go (dec_lt m active)
  where
    go : Dec (m < active) → m < active
    go (yes h) = h
    go (no h) = absurd (some (once.outside m (λ lo hi. h hi)))

head_below : (active lane : ℕ) (lanes : List ℕ) → Below active (lane ∷ lanes) → lane < active
head_below active lane lanes all = all lane (λ z. omega (arith, times_same lane lanes))

tail_below : (active lane : ℕ) (lanes : List ℕ) → Below active (lane ∷ lanes) → Below active lanes
tail_below active lane lanes all m some = go (ℕ_discrete m lane)
  where
    go : Dec (m ≡ lane) → m < active
    go (yes e) = rw e (head_below active lane lanes all)
    go (no ne) = all m (λ z. some (rw (times_other m lane lanes ne) at z))

module _ (c : Call) where
  lanes_accepted : refusal_of c ≡ 0 → (lanes : List ℕ) (w w' : Buffers) → Below c.active lanes → write_lengths w ≡ write_lengths c.before
      → LaneCalls c lanes w w'
      → Calls (lanes_of c) (share_of c) lanes (columns_of (lanes_of c) w) (columns_of (lanes_of c) w') × (write_lengths w' ≡ write_lengths c.before)
  lanes_accepted ok [] w w' all size no_lane = (no_call, size)
  lanes_accepted ok (lane ∷ lanes) w w' all size (lane_then {w' = v} did rest) =
      let on = head_below c.active lane lanes all in
      let more = lanes_accepted ok lanes v w' (tail_below c.active lane lanes all) (did.sizes ∙ size) rest in
      (call (did.share (lane_number c did on size ∙ ok)) more.0, more.1)

  lanes_refused : (refusal_of c ≡ 0 → ⊥) → (lanes : List ℕ) (w w' : Buffers) → Below c.active lanes → write_lengths w ≡ write_lengths c.before
      → LaneCalls c lanes w w' → w' ≡ w
  lanes_refused bad [] w w' all size no_lane = refl
  lanes_refused bad (lane ∷ lanes) w w' all size (lane_then {w' = v} did rest) =
      let on = head_below c.active lane lanes all in
      lanes_refused bad lanes v w' (tail_below c.active lane lanes all) (did.sizes ∙ size) rest
      ∙ did.refused (λ z. bad (sym (lane_number c did on size) ∙ z))

pub in_any_order : AnyOrder
unfolding AnyOrder
in_any_order c lanes w m once calls = go (ℕ_discrete (refusal_of c) 0)
  where
    go : Dec (refusal_of c ≡ 0) → w ≡ c.after
    go (yes ok) =
        let all = lanes_accepted c ok lanes c.before w (once_below c.active lanes once) refl calls in
        buffers_same (lanes_of c) (call_lanes c ok) w c.after (all.1 ∙ sym m.sizes) (each_unique (any_order once all.0) (m.lanes ok))
    go (no bad) = lanes_refused c bad lanes c.before w (once_below c.active lanes once) refl calls ∙ sym (m.refused bad)
