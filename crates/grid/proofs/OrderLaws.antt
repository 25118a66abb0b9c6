-- A call for each lane of an interval, once each and in any order, does what one call for the whole interval does. Assumes nothing.
use mathlib.Core.Path.{◌≡◌, refl, ◌∙◌, ap}
use mathlib.Core.List.{List, [], ◌∷◌}
use Prim.Native.Nat.{ℕ, suc, ◌<◌}
use native.Mathlib.Decide.{ℕ_discrete}
use native.Mathlib.Omega.{arith}
use borrow.Author.Tests.{eq-eqb, ne_eqb}
use Rattle.grid.specs.Lanes.{Each, times, Once, Calls, no_call, call}
use Rattle.grid.proofs.EachLaws.{one_lane, one_others}

pub times_nil : (m : ℕ) → times m [] ≡ 0
unfolding times
times_nil m = refl

pub times_same : (l : ℕ) (ls : List ℕ) → times l (l ∷ ls) ≡ suc (times l ls)
unfolding times
times_same l ls = rw (eq-eqb l l refl)

pub times_other : (m l : ℕ) (ls : List ℕ) → (m ≡ l → ⊥) → times m (l ∷ ls) ≡ times m ls
unfolding times
times_other m l ls ne = rw (ne_eqb m l ne)

module _ {X : Type 0} {n : ℕ} {F : ℕ → X → X} where
  -- a lane with no call
  pub calls_none : {ls : List ℕ} {w w' : ℕ → X} → Calls n F ls w w' → (m : ℕ) → m < n → times m ls ≡ 0 → w' m ≡ w m
  calls_none no_call m hm e = refl
  calls_none (call {l} {ls} {w} {w' = v} {w'' = u} one rest) m hm e = go (ℕ_discrete m l) (calls_none rest m hm)
    where
      go : Dec (m ≡ l) → (times m ls ≡ 0 → u m ≡ v m) → u m ≡ w m
      go (yes p) ih = absurd (let z : times l (l ∷ ls) ≡ 0 = rw p at e in omega (arith, times_same l ls))
      go (no ne) ih = ih (rw (times_other m l ls ne) at e) ∙ one_others one m hm ne

  -- a lane with one call
  pub calls_once : {ls : List ℕ} {w w' : ℕ → X} → Calls n F ls w w' → (m : ℕ) → m < n → times m ls ≡ 1 → w' m ≡ F m (w m)
  calls_once no_call m hm e = absurd (omega (arith, times_nil m))
  calls_once (call {l} {ls} {w} {w' = v} {w'' = u} one rest) m hm e = go (ℕ_discrete m l) (calls_once rest m hm)
    where
      go : Dec (m ≡ l) → (times m ls ≡ 1 → u m ≡ F m (v m)) → u m ≡ F m (w m)
      go (yes p) ih =
          let z : times l (l ∷ ls) ≡ 1 = rw p at e in
          rw p (calls_none rest l (rw p at hm) (omega (arith, times_same l ls)) ∙ one_lane one (rw p at hm))
      go (no ne) ih = ih (rw (times_other m l ls ne) at e) ∙ ap (F m) (one_others one m hm ne)

  pub any_order : {from to : ℕ} {ls : List ℕ} {w w' : ℕ → X} → Once from to ls → Calls n F ls w w' → Each n from to F w w'
  any_order once calls =
      record {
        inside = λ l hl lo hi. calls_once calls l hl (once.inside l lo hi);
        outside = λ l hl free. calls_none calls l hl (once.outside l free);
      }
