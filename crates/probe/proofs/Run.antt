-- `Ran`, at no answers and with one answer more. Assumes nothing.
use mathlib.Core.Path.{◌≡◌, refl, ◌∙◌}
use mathlib.Core.Bool.{Bool, true, false, cond}
use mathlib.Core.List.{List}
use Prim.Native.Nat.{ℕ, ◌+◌, ◌<◌, ◌≤◌, min}
use native.Mathlib.Omega.{arith}
use lib.Dec.{eqb, ltb}
use lib.ListN.{length, get_or, set, length-set}
use lib.Seq.{get_or-set_same, get_or-set_other}
use lib.Ieee.{Float, nan}
use borrow.Author.Tests.{eqb-true, eqb-false, ltb-false}
use Rattle.probe.specs.Runs.{Ran}
use Rattle.probe.specs.Phases.{run_length}

pub ran_none : (answer : ℕ → Float) (out : List Float) → Ran answer out out 0
ran_none answer out = record { long = refl; made = λ k h. absurd (omega arith); kept = λ k h. refl }

pub ran_more : (answer : ℕ → Float) (before now : List Float) (i : ℕ) (v : Float) → i < length now → Ran answer before now i → v ≡ answer i → Ran answer before (set now i v) (i + 1)
ran_more answer before now i v h r e =
    record {
      long = rw length-set r.long;
      made = λ k l. go k l (eqb k i) refl;
      kept = λ k l. get_or-set_other now i k v nan (λ (q : k ≡ i). omega arith) ∙ r.kept k (omega arith);
    }
  where
    go : (k : ℕ) → k < i + 1 → (b : Bool) → eqb k i ≡ b → get_or (set now i v) k nan ≡ answer k
    go k l true q = rw (eqb-true k i q) (get_or-set_same now i v nan h ∙ e)
    go k l false q = get_or-set_other now i k v nan (eqb-false k i q) ∙ r.made k (omega (arith, eqb-false k i q))

-- ---- what a turn of a run of read lists may rely on
pub record Room (i curve cycle words out : ℕ) : Type 0 where
  pub drawn : 1024 < curve
  pub whole : 2048 ≤ cycle
  pub word : i < words
  pub cell : i < out

pub room : (i curve cycle words out : ℕ) → i < run_length curve cycle words out → Room i curve cycle words out
unfolding run_length
room i curve cycle words out = go (ltb curve 1025) (ltb cycle 2048) refl refl
  where
    go : (a b : Bool) → ltb curve 1025 ≡ a → ltb cycle 2048 ≡ b → i < cond a 0 (cond b 0 (min words out)) → Room i curve cycle words out
    go true b p q h = absurd (omega arith)
    go false true p q h = absurd (omega arith)
    go false false p q h =
        let l = ltb-false curve 1025 p in
        let m = ltb-false cycle 2048 q in
        record { drawn = omega arith; whole = omega arith; word = omega arith; cell = omega arith }
