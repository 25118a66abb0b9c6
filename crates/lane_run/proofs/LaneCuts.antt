-- Demand 3 with lanes' calls in Run B: for its lane an accepted lane's call is as good as the run with its arguments. Assumes nothing.
use mathlib.Core.Path.{◌≡◌, refl, sym, ◌∙◌, ap, ap₂, subst}
use mathlib.Core.List.{List, [], ◌∷◌, ◌++◌}
use Prim.Native.Nat.{ℕ, ◌+◌, ◌<◌}
use lib.Ieee.{Float}
use borrow.Author.Tests.{eq-eqb, ne_eqb}
use Rattle.grid.specs.Functions.{table}
use Rattle.grid.proofs.EachLaws.{one_others}
use Rattle.share.specs.Share.{Buffers, columns_of}
use Rattle.block.specs.Call.{Call, refusal_of, lanes_of}
use Rattle.cuts.specs.Cuts.{Which, state_of, entering, leaving, Alike, RunB, end, accept, rows_of, output_of, Demand3}
use Rattle.cuts.proofs.Calls.{refused_rows, still_state}
use Rattle.cuts.proofs.State.{list_of, state_listed}
use Rattle.cuts.proofs.Made.{made, met_by}
use Rattle.cuts.proofs.Cuts.{cuts}
use Rattle.lane_run.specs.LaneCall.{lane_refusal_of, LaneMeets}
use Rattle.lane_run.specs.Orders.{EndsAsRun}
use Rattle.lane_run.specs.LaneCuts.{AnyCall, block_run, lane_run_call, call_of, number_of, MeetsOf, ByLanes, done, refused, taken, other, rows_by, output_by, Demand3ByLanes}
use Rattle.lane_run.proofs.LaneLaws.{accepted_active, accepted_run}
use Rattle.lane_run.proofs.Orders.{column_same, ends_as_run}

-- a lane's state by its columns
state_same : (n lane : ℕ) (x y : Buffers) → columns_of n x lane ≡ columns_of n y lane → state_of n lane x ≡ state_of n lane y
state_same n lane x y e = state_listed n lane x ∙ ap list_of e ∙ sym (state_listed n lane y)

-- ---- the run with a lane's call's arguments and buffers

abbrev run_of : Call → Call
run_of c = made c.settings c.range c.active c.coefs c.numbers c.lent c.before

module _ (c : Call) (lane : ℕ) (did : LaneMeets c lane) (ok : lane_refusal_of c lane ≡ 0) where
  run_accepted : refusal_of (run_of c) ≡ 0
  unfolding refusal_of
  run_accepted = accepted_run c lane ok

  ends_alike : columns_of (lanes_of c) c.after lane ≡ columns_of (lanes_of c) (run_of c).after lane
  unfolding EndsAsRun
  ends_alike =
      ends_as_run (run_of c) lane c.before c.after c.answer (met_by _ _ _ _ _ _ _) (accepted_active c lane ok) refl refl did

  run_leaves : leaving (run_of c) lane ≡ leaving c lane
  run_leaves = sym (state_same (lanes_of c) lane c.after (run_of c).after ends_alike)

  run_rows : rows_of lane (run_of c) ≡ rows_by lane (lane_run_call lane c)
  run_rows =
      rw (eq-eqb (refusal_of (run_of c)) 0 run_accepted, eq-eqb (lane_refusal_of c lane) 0 ok, eq-eqb lane lane refl)
      (ap (λ (f : ℕ → Float). table c.range.count (λ k. f (c.range.first + k)))
      (sym (column_same (lanes_of c) lane c.after (run_of c).after ends_alike Which.output)))

-- ---- calls that give the lane no output

refused_none : (lane : ℕ) (x : AnyCall) → (number_of x ≡ 0 → ⊥) → rows_by lane x ≡ []
refused_none lane (block_run c) bad = refused_rows c bad lane
refused_none lane (lane_run_call m c) bad = rw (ne_eqb (lane_refusal_of c m) 0 bad)

refused_still : (x : AnyCall) → MeetsOf x → (number_of x ≡ 0 → ⊥) → (call_of x).after ≡ (call_of x).before
refused_still (block_run c) m bad = m.refused bad
refused_still (lane_run_call k c) m bad = m.refused bad

other_none : (lane m : ℕ) (c : Call) → lane_refusal_of c m ≡ 0 → (m ≡ lane → ⊥) → rows_by lane (lane_run_call m c) ≡ []
other_none lane m c ok ne = rw (eq-eqb (lane_refusal_of c m) 0 ok, ne_eqb m lane ne)

other_still : (lane m : ℕ) (c : Call) → LaneMeets c m → lane_refusal_of c m ≡ 0 → (m ≡ lane → ⊥) → lane < lanes_of c → leaving c lane ≡ entering c lane
other_still lane m c did ok ne low =
    state_same (lanes_of c) lane c.after c.before (one_others (did.share ok) lane low (λ e. ne (sym e)))

-- ---- Run B of block runs alone, with the same output

record AsRuns (a : Call) (lane at : ℕ) (s e rows : List Float) : Type 0 where
  pub calls : List Call
  pub run : RunB a lane at s calls e
  pub output : output_of lane calls ≡ rows

-- from the same state, with the same output
from_same : {a : Call} {lane at : ℕ} {s t e rows rows' : List Float} → s ≡ t → rows ≡ rows' → AsRuns a lane at t e rows → AsRuns a lane at s e rows'
from_same {a} {lane} {at} {e = e} same out r =
    record {
      calls = r.calls;
      run = subst (λ (x : List Float). RunB a lane at x r.calls e) (sym same) r.run;
      output = r.output ∙ out;
    }

module _ (a : Call) (lane : ℕ) where
  -- a call for the lane in front of them: the run with its arguments takes its place
  lane_first : {at : ℕ} {s e rows : List Float} (k : ℕ) (c : Call) → k ≡ lane → LaneMeets c k → lane_refusal_of c k ≡ 0 → Alike a c lane
      → c.range.first ≡ at → entering c lane ≡ s → AsRuns a lane (at + c.range.count) (leaving c lane) e rows
      → AsRuns a lane at s e (rows_by lane (lane_run_call k c) ++ rows)
  unfolding output_of
  lane_first k c own m ok alike from lends rest =
      let did : LaneMeets c lane = subst (λ (l : ℕ). LaneMeets c l) own m in
      let told : lane_refusal_of c lane ≡ 0 = subst (λ (l : ℕ). lane_refusal_of c l ≡ 0) own ok in
      let r = from_same (run_leaves c lane did told) refl rest in
      record {
        calls = run_of c ∷ r.calls;
        run = accept (run_of c) (met_by _ _ _ _ _ _ _) (run_accepted c lane did told)
            (record { settings = alike.settings; inputs = alike.inputs; active = alike.active }) from lends r.run;
        output = ap₂ ◌++◌ (run_rows c lane did told ∙ ap (λ (l : ℕ). rows_by lane (lane_run_call l c)) (sym own)) r.output;
      }

  as_runs : (at : ℕ) (s e : List Float) (xs : List AnyCall) → ByLanes a lane at s xs e → AsRuns a lane at s e (output_by lane xs)
  unfolding output_of output_by
  as_runs at s e xs (done here same) = record { calls = []; run = end here same; output = refl }
  as_runs at s e xs (refused {t = t} {xs = ys} x m bad around rest) =
      from_same (still_state (call_of x) (refused_still x m bad) s t around)
      (ap (λ (l : List Float). l ++ output_by lane ys) (sym (refused_none lane x bad)))
      (as_runs at t e ys rest)
  as_runs at s e xs (other {xs = ys} m c did ok ne low lends rest) =
      from_same (sym (other_still lane m c did ok ne low ∙ lends))
      (ap (λ (l : List Float). l ++ output_by lane ys) (sym (other_none lane m c ok ne)))
      (as_runs at (leaving c lane) e ys rest)
  as_runs at s e xs (taken {xs = ys} (block_run c) m ok about alike from lends rest) =
      let r = as_runs (at + c.range.count) (leaving c lane) e ys rest in
      record {
        calls = c ∷ r.calls;
        run = accept c m ok alike from lends r.run;
        output = ap (λ (l : List Float). rows_of lane c ++ l) r.output;
      }
  as_runs at s e xs (taken {xs = ys} (lane_run_call k c) m ok about alike from lends rest) =
      lane_first k c about m ok alike from lends (as_runs (at + c.range.count) (leaving c lane) e ys rest)

pub cuts_by_lanes : Demand3ByLanes
unfolding Demand3ByLanes Demand3
cuts_by_lanes a lane xs e whole by =
    let r = as_runs a lane 0 (entering a lane) e xs by in
    let agree = cuts a lane r.calls e whole r.run in
    (sym r.output ∙ agree.output, agree.state)
