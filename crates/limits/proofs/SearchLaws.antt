-- The laws of a search among the numbers below k. A loop that goes up from 0 keeps `some_below i p ≡ false`: `none_yet`, `none_more`, `found`
-- where it answers whether there is one, `found_least` and `none_least` where it answers which. Assumes nothing.
use mathlib.Core.Path.{◌≡◌, refl, sym, ◌∙◌}
use mathlib.Core.Bool.{Bool, true, false, cond, ◌||◌}
use Prim.Native.Nat.{ℕ, zero, suc, ◌+◌, ◌-◌, ◌≤◌, ◌<◌}
use native.Mathlib.Decide.{ℕ_discrete}
use native.Mathlib.Numerals.{add-one}
use native.Mathlib.Nat.{le_antisymm}
use native.Mathlib.Omega.{arith}
use lib.Dec.{ltb}
use borrow.Author.Tests.{ltb-true, ltb-false}
use Rattle.limits.specs.Search.{some_below, least_below, Least}

or_true : (a : Bool) → (a || true) ≡ true
or_true true = refl
or_true false = refl

pub never : {A : Type 0} {b : Bool} → b ≡ true → b ≡ false → A
never e f = absurd (let z : ◌≡◌ {A = ℕ} 0 1 = cc in omega arith)

-- ---- whether there is one

module _ (p : ℕ → Bool) where
  pub none_yet : some_below 0 p ≡ false
  unfolding some_below
  none_yet = refl

  pub none_more : (k : ℕ) → some_below k p ≡ false → p k ≡ false → some_below (k + 1) p ≡ false
  unfolding some_below
  none_more k e f = rw (add-one k) (rw (e, f))

  pub found : (m k : ℕ) → k < m → p k ≡ true → true ≡ some_below m p
  unfolding some_below
  found zero k h e = absurd (omega arith)
  found (suc m) k h e = go (ℕ_discrete k m) (found m k)
    where
      go : Dec (k ≡ m) → (k < m → p k ≡ true → true ≡ some_below m p) → true ≡ (some_below m p || p m)
      go (yes same) below = rw (← same, e) (sym (or_true (some_below k p)))
      go (no other) below = rw (← below (omega arith) e)

  -- none of them has it
  pub none_below : (m : ℕ) → some_below m p ≡ false → (k : ℕ) → k < m → p k ≡ false
  none_below m e k h = go (p k) refl
    where
      go : (b : Bool) → p k ≡ b → p k ≡ false
      go true t = never (sym (found m k h t)) e
      go false f = f

  pub all_none : (m : ℕ) → ((k : ℕ) → k < m → p k ≡ false) → some_below m p ≡ false
  unfolding some_below
  all_none zero f = refl
  all_none (suc m) f = rw (all_none m (λ (k : ℕ) (h : k < m). f k (omega arith)), f m (omega arith))

-- ---- the least

-- there is one only
pub one_least : (k : ℕ) (p : ℕ → Bool) (n m : ℕ) → Least k p n → Least k p m → n ≡ m
one_least k p n m a b = le_antisymm (at_most n m a b) (at_most m n b a)
  where
    at_most : (n m : ℕ) → Least k p n → Least k p m → n ≤ m
    at_most n m a b = go (ltb m n) refl
      where
        go : (t : Bool) → ltb m n ≡ t → n ≤ m
        go true t = let l = ltb-true m n t in never (b.there (omega (arith, a.most))) (a.before m l)
        go false f = ltb-false m n f

-- and `least_below` is it
pub least_below_lem : (k : ℕ) (p : ℕ → Bool) → Least k p (least_below k p)
unfolding least_below
least_below_lem zero p = record { most = omega arith; there = λ h. absurd (omega arith); before = λ i h. absurd (omega arith) }
least_below_lem (suc k) p = go (p zero) refl (least_below_lem k (λ i. p (suc i)))
  where
    after : (n : ℕ) → p zero ≡ false → Least k (λ i. p (suc i)) n → (i : ℕ) → i < suc n → p i ≡ false
    after n e l zero h = e
    after n e l (suc i) h = l.before i (omega arith)

    go : (b : Bool) → p zero ≡ b → {n : ℕ} → Least k (λ i. p (suc i)) n → Least (suc k) p (cond b zero (suc n))
    go true e l = record { most = omega arith; there = λ h. e; before = λ i h. absurd (omega arith) }
    go false e {n} l = record { most = omega (arith, l.most); there = λ h. l.there (omega arith); before = after n e l }

module _ (p : ℕ → Bool) where
  -- where none below i has it and i has, i is the least
  pub found_least : (k i : ℕ) → i < k → some_below i p ≡ false → p i ≡ true → i ≡ least_below k p
  found_least k i h e t =
      one_least k p i (least_below k p) (record { most = omega arith; there = λ l. t; before = none_below p i e }) (least_below_lem k p)

  -- and where none has it, k is
  pub none_least : (k : ℕ) → some_below k p ≡ false → k ≡ least_below k p
  none_least k e =
      one_least k p k (least_below k p) (record { most = omega arith; there = λ l. absurd (omega arith); before = none_below p k e }) (least_below_lem k p)

  -- it is below k exactly where one has it
  pub least_some : (k : ℕ) → some_below k p ≡ ltb (least_below k p) k
  least_some k = go (ltb (least_below k p) k) refl
    where
      go : (b : Bool) → ltb (least_below k p) k ≡ b → some_below k p ≡ b
      go true t = let l = ltb-true (least_below k p) k t in sym (found p k (least_below k p) l ((least_below_lem k p).there l))
      go false f =
          let l = ltb-false (least_below k p) k f in
          all_none p k (λ (i : ℕ) (h : i < k). (least_below_lem k p).before i (omega arith))

-- properties that agree below k have one least
pub least_alike : (k : ℕ) (p q : ℕ → Bool) → ((i : ℕ) → i < k → p i ≡ q i) → least_below k p ≡ least_below k q
least_alike k p q e = one_least k q (least_below k p) (least_below k q) (go (least_below_lem k p)) (least_below_lem k q)
  where
    go : {n : ℕ} → Least k p n → Least k q n
    go {n} l =
        record {
          most = l.most;
          there = λ h. sym (e n h) ∙ l.there h;
          before = λ i h. sym (e i (omega (arith, l.most))) ∙ l.before i h;
        }

-- ---- a search in parts: of the n numbers from k on, with none below k

module _ (p : ℕ → Bool) (k n : ℕ) (none : some_below k p ≡ false) {i : ℕ} (l : i ≡ least_below n (λ j. p (k + j))) where
  at_least : Least n (λ j. p (k + j)) i
  at_least = rw l (least_below_lem n (λ j. p (k + j)))

  -- none below the one that is found, or the part's end
  none_before : some_below (k + i) p ≡ false
  none_before = all_none p (k + i) go
    where
      split : (j : ℕ) → j < k + i → (b : Bool) → ltb j k ≡ b → p j ≡ false
      split j h true t = none_below p k none j (ltb-true j k t)
      split j h false f =
          let past = ltb-false j k f in
          let same : k + (j - k) ≡ j = omega arith in
          rw (← same) (at_least.before (j - k) (omega arith))

      go : (j : ℕ) → j < k + i → p j ≡ false
      go j h = split j h (ltb j k) refl

  -- none of the part has it
  pub part_none : n ≤ i → some_below (k + n) p ≡ false
  part_none h = let e : i ≡ n = omega (arith, at_least.most) in rw e at none_before

  -- one is found, and it is the least of all
  pub part_found : (m : ℕ) → i < n → k + i < m → k + i ≡ least_below m p
  part_found m h low = found_least p m (k + i) low none_before (at_least.there h)

  -- or it lies past the m that are looked at
  pub part_past : (m : ℕ) → m ≤ k + i → m ≡ least_below m p
  part_past m h = none_least p m (all_none p m (λ (j : ℕ) (b : j < m). none_below p (k + i) none_before j (omega arith)))

-- and where parts went past the end
pub none_past : (p : ℕ → Bool) (k m : ℕ) → some_below k p ≡ false → m ≤ k → m ≡ least_below m p
none_past p k m none h = none_least p m (all_none p m (λ (j : ℕ) (b : j < m). none_below p k none j (omega arith)))
