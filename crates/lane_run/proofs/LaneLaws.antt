-- The laws of a lane's call: its number by the block run's, what an accepted one has, and what it promises turned down and done.
-- Assumes nothing.
use mathlib.Core.Path.{◌≡◌, refl, sym, ◌∙◌, ap, subst}
use mathlib.Core.Bool.{Bool, true, false, cond, ◌||◌}
use Prim.Native.Nat.{ℕ, ◌+◌, ◌<◌, ◌≤◌}
use native.Mathlib.Decide.{dec_lt}
use native.Mathlib.Omega.{arith}
use lib.Dec.{eqb}
use Rattle.std.specs.Prelude.{Option, Some, None, Result, Ok, Err}
use Rattle.std.specs.Result.{IsErrAnd}
use Rattle.std.specs.Option.{ForSome}
use Rattle.std.proofs.lemmas.Option.{none-some, same_Some}
use borrow.Author.Tests.{lt-ltb, le-ltb, ne_eqb, eq-eqb}
use Rattle.limits.specs.declared.refusal.Refusal.{Refusal}
use Rattle.limits.specs.Refusals.{line_of, number_of, answer_of}
use Rattle.limits.specs.Lines.{first_of, bad_modes, bad_factor, bad_lanes, bad_range, bad_rate, bad_counts}
use Rattle.limits.proofs.LineLaws.{all_lines, some_line}
use Rattle.shaper.specs.declared.settings.Range.{Range}
use Rattle.render.specs.declared.state.BlockSettings.{BlockSettings}
use Rattle.render.specs.Lane.{Lent}
use Rattle.share.specs.Share.{Buffers}
use Rattle.share.specs.Promises.{Shared}
use Rattle.block.specs.declared.refusal.CallNumbers.{CallNumbers}
use Rattle.block.specs.declared.refusal.ReadLengths.{ReadLengths}
use Rattle.block.specs.declared.refusal.WriteLengths.{WriteLengths}
use Rattle.block.specs.Refusal.{reads_short, writes_short, block_refusal}
use Rattle.block.specs.Call.{Call, called, call_numbers, read_lengths, write_lengths, refusal_of, Taken}
use Rattle.block.proofs.RefusalLaws.{accepted}
use Rattle.block.proofs.SharedLaws.{sizes_lengths}
use Rattle.block.proofs.CallLaws.{meets_turned_down, meets_shared}
use Rattle.lane_run.specs.declared.either.Interval.{Interval}
use Rattle.lane_run.specs.LaneCall.{lane_refusal, lane_refusal_of, LaneMeets}
use Rattle.lane_run.specs.Either.{either_refusal, interval_of, EitherMeets}

-- ---- the number

or_none : (a : Bool) → (a || false) ≡ a
or_none true = refl
or_none false = refl

or_all : (a : Bool) → (a || true) ≡ true
or_all true = refl
or_all false = refl

-- a table whose line 3 holds
third : (a b d e f g h : Bool) → first_of (all_lines a b true d e f g h) ≡ cond a 1 (cond b 2 3)
unfolding first_of
third true b d e f g h = refl
third false true d e f g h = refl
third false false d e f g h = refl

-- the same by the number of a table with any line 3
by_number : (a b c d e f g h : Bool)
    → let n = first_of (all_lines a b c d e f g h) in
    ◌≡◌ {A = ℕ} (cond a 1 (cond b 2 3)) (cond (eqb n 1) 1 (cond (eqb n 2) 2 3))
unfolding first_of
by_number true b c d e f g h = refl
by_number false true c d e f g h = refl
by_number false false true d e f g h = refl
by_number false false false true e f g h = refl
by_number false false false false true f g h = refl
by_number false false false false false true g h = refl
by_number false false false false false false true h = refl
by_number false false false false false false false true = refl
by_number false false false false false false false false = refl

module _ (call : CallNumbers) (lane : ℕ) (reads : ReadLengths) (writes : WriteLengths) where
  -- an active lane's call has the run's number
  pub active_number : lane < call.active → lane_refusal lane call reads writes ≡ block_refusal call reads writes
  unfolding lane_refusal block_refusal
  active_number h = rw (lt-ltb lane call.active h, or_none (bad_lanes call.lanes call.active))

  idle_lines : call.active ≤ lane
      → lane_refusal lane call reads writes ≡ cond (bad_modes call.mode0 call.mode1) 1 (cond (bad_factor call.factor) 2 3)
  unfolding lane_refusal
  idle_lines h =
      rw (le-ltb lane call.active h, or_all (bad_lanes call.lanes call.active))
      (third (bad_modes call.mode0 call.mode1) (bad_factor call.factor) (bad_range call.frames call.first call.count)
      (bad_rate call.rate) (bad_counts call.count0 call.count1 call.count2) (reads_short call reads) (writes_short call writes))

  -- another one's is 3, but for the lines before it
  pub idle_number : call.active ≤ lane
      → lane_refusal lane call reads writes
      ≡ cond (eqb (block_refusal call reads writes) 1) 1 (cond (eqb (block_refusal call reads writes) 2) 2 3)
  unfolding block_refusal
  idle_number h =
      idle_lines h
      ∙ by_number (bad_modes call.mode0 call.mode1) (bad_factor call.factor) (bad_lanes call.lanes call.active)
      (bad_range call.frames call.first call.count) (bad_rate call.rate) (bad_counts call.count0 call.count1 call.count2)
      (reads_short call reads) (writes_short call writes)

  -- so an accepted call's lane is active
  pub lane_active : lane_refusal lane call reads writes ≡ 0 → lane < call.active
  lane_active e = go (dec_lt lane call.active)
    where
      some : (a b : Bool) → ◌≡◌ {A = ℕ} (cond a 1 (cond b 2 3)) 0 → ⊥
      some true b z = omega arith
      some false true z = omega arith
      some false false z = omega arith

      go : Dec (lane < call.active) → lane < call.active
      go (yes h) = h
      go (no h) = absurd (some (bad_modes call.mode0 call.mode1) (bad_factor call.factor) (sym (idle_lines (omega arith)) ∙ e))

  -- and the run with its arguments is accepted
  pub lane_passed : lane_refusal lane call reads writes ≡ 0 → block_refusal call reads writes ≡ 0
  lane_passed e = sym (active_number (lane_active e)) ∙ e

-- of a call
module _ (c : Call) (lane : ℕ) where
  pub number_active : lane < c.active → lane_refusal_of c lane ≡ refusal_of c
  unfolding lane_refusal_of refusal_of
  number_active on = active_number (call_numbers c.settings c.range c.active) lane _ _ on

  pub accepted_active : lane_refusal_of c lane ≡ 0 → lane < c.active
  unfolding lane_refusal_of
  accepted_active ok = lane_active (call_numbers c.settings c.range c.active) lane _ _ ok

  pub accepted_run : lane_refusal_of c lane ≡ 0 → refusal_of c ≡ 0
  unfolding lane_refusal_of refusal_of
  accepted_run ok = lane_passed (call_numbers c.settings c.range c.active) lane _ _ ok

-- ---- what it promises

module _ (b : BlockSettings) (r : Range) (active lane coefs numbers : ℕ) (l : Lent) (w : Buffers) where
  abbrev number : ℕ
  number = lane_refusal lane (call_numbers b r active) (read_lengths coefs numbers l) (write_lengths w)

  -- what its share asks for: the lanes up to its own are there
  pub lane_taken : number ≡ 0 → Taken b r (lane + 1) l w
  lane_taken ok =
      let on = lane_active (call_numbers b r active) lane _ _ ok in
      let taken = accepted b r active coefs numbers l w (lane_passed (call_numbers b r active) lane _ _ ok) in
      record {
        limits = taken.limits;
        actives = omega (arith, on, taken.actives);
        readable = taken.readable;
        writable = taken.writable;
      }

  pub lane_refused : (answer : ℕ) → answer ≡ number → (answer ≡ 0 → ⊥)
      → LaneMeets (called b r active coefs numbers l w w (record { number = answer; frames = 0 })) lane
  unfolding lane_refusal_of
  lane_refused answer e bad =
      record {
        number = e;
        frames = rw (ne_eqb number 0 (λ z. bad (e ∙ z)));
        refused = λ h. refl;
        share = λ z. absurd (bad (e ∙ z));
        sizes = refl;
      }

  pub lane_turned_down : (outcome : Result ℕ Refusal) (e : Refusal) → IsErrAnd outcome (λ x. x ≡ e)
      → number_of {A = Unit {0}} (Err e) ≡ number → LaneMeets (called b r active coefs numbers l w w (answer_of outcome)) lane
  unfolding number_of answer_of
  lane_turned_down (Ok _) e h is = absurd h
  lane_turned_down (Err x) e h is = lane_refused (line_of x) (ap line_of h ∙ is) (λ z. omega (arith, some_line x))

  pub lane_shared : {w' : Buffers} → number ≡ 0 → Shared b r l lane (lane + 1) w w'
      → LaneMeets (called b r active coefs numbers l w w' (answer_of (Ok r.count))) lane
  unfolding lane_refusal_of answer_of
  lane_shared ok did =
      record {
        number = sym ok;
        frames = rw (eq-eqb number 0 ok);
        refused = λ bad. absurd (bad ok);
        share = λ z. did.lanes;
        sizes = sizes_lengths did.sizes;
      }

-- ---- either call

module _ (call : CallNumbers) (reads : ReadLengths) (writes : WriteLengths) where
  pub either_passed : (lane : Option ℕ) → either_refusal lane call reads writes ≡ 0 → block_refusal call reads writes ≡ 0
  either_passed (Some lane) ok = lane_passed call lane reads writes ok
  either_passed None ok = ok

module _ (b : BlockSettings) (r : Range) (active coefs numbers : ℕ) (l : Lent) (w : Buffers) where
  abbrev told : Option ℕ → ℕ
  told lane = either_refusal lane (call_numbers b r active) (read_lengths coefs numbers l) (write_lengths w)

  pub either_active : (lane : Option ℕ) → told lane ≡ 0 → ForSome lane (λ one. one < active)
  either_active (Some lane) ok x e = let low = lane_active (call_numbers b r active) lane _ _ ok in omega (arith, same_Some lane x e)
  either_active None ok x e = absurd (none-some x e)

  pub either_taken : (lane : Option ℕ) → told lane ≡ 0
      → let lanes = interval_of lane active in (lanes.from ≤ lanes.to) × Taken b r lanes.to l w
  either_taken (Some lane) ok = (omega arith, lane_taken b r active lane coefs numbers l w ok)
  either_taken None ok = (omega arith, accepted b r active coefs numbers l w ok)

  pub either_turned_down : (lane : Option ℕ) (outcome : Result ℕ Refusal) (e : Refusal) → IsErrAnd outcome (λ x. x ≡ e)
      → number_of {A = Unit {0}} (Err e) ≡ told lane → EitherMeets lane (called b r active coefs numbers l w w (answer_of outcome))
  either_turned_down (Some lane) = lane_turned_down b r active lane coefs numbers l w
  either_turned_down None = meets_turned_down b r active coefs numbers l w

  pub either_shared : (lane : Option ℕ) {w' : Buffers} → told lane ≡ 0
      → let lanes = interval_of lane active in Shared b r l lanes.from lanes.to w w'
      → EitherMeets lane (called b r active coefs numbers l w w' (answer_of (Ok r.count)))
  either_shared (Some lane) = lane_shared b r active lane coefs numbers l w
  either_shared None = meets_shared b r active coefs numbers l w

-- by settings and an interval that are the same
pub taken_by : {b b' : BlockSettings} {r : Range} {i j : Interval} {l : Lent} {w : Buffers} → b' ≡ b → i ≡ j
    → (j.from ≤ j.to) × Taken b r j.to l w → (i.from ≤ i.to) × Taken b' r i.to l w
taken_by settings lanes taken = rw (settings, lanes) taken

pub shared_at : {b : BlockSettings} {r : Range} {i j : Interval} {l : Lent} {w w' : Buffers} → i ≡ j
    → Shared b r l i.from i.to w w' → Shared b r l j.from j.to w w'
shared_at {b} {r} {i} {j} {l} {w} {w'} lanes = subst (λ (k : Interval). Shared b r l k.from k.to w w') lanes
