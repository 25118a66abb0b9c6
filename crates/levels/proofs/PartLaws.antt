-- The search in parts: what is found in one, the outputs of a part, and of which modes they are. Assumes nothing.
use mathlib.Core.Path.{◌≡◌, refl, ap, ◌∙◌}
use mathlib.Core.Bool.{Bool, true, false, cond}
use mathlib.Core.List.{List}
use Prim.Native.Nat.{ℕ, zero, suc, ◌+◌, ◌≤◌, ◌<◌}
use native.Mathlib.Decide.{ℕ_discrete}
use native.Mathlib.Omega.{arith}
use denote.Param.Members.{Mut}
use borrow.Author.Tests.{lt-ltb, le-ltb, ltb-true}
use lib.Dec.{ltb}
use lib.ListN.{length, get_or}
use lib.Ieee.{Float, nan}
use Rattle.std.proofs.Common.{Option, Some, None}
use Rattle.std.specs.Option.{MatchOption}
use Rattle.std.specs.List.{position}
use Rattle.std.specs.Fn.{Called}
use Rattle.std.specs.Array.{IsFromFnResult, IsFromFnResultFrom}
use Rattle.std.proofs.lemmas.List.Sums.{position_or_len_is}
use Rattle.floats.specs.F32.{◌⊗◌}
use Rattle.floats.specs.Steps.{◌>>=◌}
use Rattle.floats.proofs.Products.{product_comm}
use Rattle.grid.proofs.TableLaws.{length_table, get_or-table}
use Rattle.limits.specs.Search.{least_below}
use Rattle.limits.proofs.SearchLaws.{all_none, found_least, none_least, least_some, least_alike, least_below_lem}
use Rattle.wave.specs.Curve.{curve_of, curves_of}
use Rattle.wave.specs.Smooth.{drive_of}
use Rattle.wave.proofs.Distorting.{distort_rectified, distort_curved}
use Rattle.levels.specs.Levels.{amounts, amount_of, within_of, within_at}
use Rattle.levels.specs.Parts.{least_of, part_length, rectified_at, curved_at}

-- ---- the least, if there is one

module _ (k : ℕ) (p : ℕ → Bool) where
  pub least_there : {n : ℕ} → n ≡ least_below k p → n < k → Some n ≡ least_of k p
  unfolding least_of
  least_there {n} l h = rw (← l, lt-ltb n k h)

  pub least_nowhere : k ≡ least_below k p → None ≡ least_of k p
  unfolding least_of
  least_nowhere l = rw (← l, le-ltb k k (omega arith))

  -- and back
  pub from_least : {r : Option ℕ} → r ≡ least_of k p → MatchOption r (k ≡ least_below k p) (λ n. (n < k) × (n ≡ least_below k p))
  unfolding least_of
  from_least {r} e = go (ltb (least_below k p) k) refl r e
    where
      go : (b : Bool) → ltb (least_below k p) k ≡ b → (r : Option ℕ) → r ≡ cond b (Some (least_below k p)) None → MatchOption r (k ≡ least_below k p) (λ n. (n < k) × (n ≡ least_below k p))
      go true t (Some n) e =
          let same : n ≡ least_below k p = cc in
          let low = ltb-true (least_below k p) k t in
          (omega arith, same)
      go true t None e = absurd (cc)
      go false f (Some n) e = absurd (cc)
      go false f None e = none_least p k (least_some p k ∙ f)

-- what is found by trying each number below k
pub found_first : (k : ℕ) (p : ℕ → Bool) (r : Option ℕ) → MatchOption r ((i : ℕ) → 0 ≤ i → i < k → p i ≡ false) (λ n. (0 ≤ n) × (n < k) × (p n ≡ true) × ((i : ℕ) → 0 ≤ i → i < n → p i ≡ false))
    → r ≡ least_of k p
found_first k p (Some n) f = least_there k p (found_least p k n f.1 (all_none p n (λ i h. f.3 i (omega arith) h)) f.2) f.1
found_first k p None f = least_nowhere k p (none_least p k (all_none p k (λ i h. f i (omega arith) h)))

-- the first place of a list whose number has q
pub first_place : {A : Type 0} (q : A → Bool) (d : A) (xs : List A) → position q xs ≡ least_of (length xs) (λ i. q (get_or xs i d))
unfolding least_of
first_place q d xs =
    let l = least_below_lem (length xs) (λ i. q (get_or xs i d)) in
    rw (position_or_len_is q xs (least_below (length xs) (λ i. q (get_or xs i d))) d l.most l.before l.there)

-- what `array::from_fn` makes by a closure that stays as it is
module _ {F B : Type 0} (g : Mut F (ℕ × Unit {0}) B) (h : ℕ → B) {f : F} (one : (k : ℕ) (y : B) (q : F) → Called g f (k, tt) y q → (q ≡ f) × (y ≡ h k)) where
  made_from : (ys : List B) (i n : ℕ) → IsFromFnResultFrom g f ys i n → (k : ℕ) → i ≤ k → k < i + n → (d : B) → get_or ys k d ≡ h k
  made_from ys i zero e k low high d = absurd (omega arith)
  made_from ys i (suc n) (q, y, is, called, rest) k low high d = go (ℕ_discrete k i) (made_from ys (i + 1) n (rw (one i y q called).0 at rest) k)
    where
      go : Dec (k ≡ i) → (i + 1 ≤ k → k < i + 1 + n → (d : B) → get_or ys k d ≡ h k) → get_or ys k d ≡ h k
      go (yes e) after = rw e (is.1 d ∙ (one i y q called).1)
      go (no ne) after = after (omega arith) (omega arith) d

  pub made_at : {ys : List B} {n : ℕ} → IsFromFnResult g f ys n → (k : ℕ) → k < n → (d : B) → get_or ys k d ≡ h k
  made_at {ys} {n} made k low d = made_from ys 0 n made.each k (omega arith) (omega arith) d

-- where the least is the same
pub same_least : (k : ℕ) (p q : ℕ → Bool) → least_below k p ≡ least_below k q → least_of k p ≡ least_of k q
unfolding least_of
same_least k p q e = rw e

-- ---- a part

module _ (sk : List Float) (mode : ℕ) (sample wanted tolerance : Float) where
  -- an output of it
  output : (from : ℕ) (drives : List Float) → length drives ≡ part_length → ((i : ℕ) → i < part_length → get_or drives i nan ≡ drive_of mode (amount_of (from + i)))
      → (i : ℕ) → i < part_length → get_or (curves_of sk mode sample drives) i nan ≡ curve_of sk mode (drive_of mode (amount_of (from + i)) ⊗ sample)
  unfolding curves_of
  output from drives long at i h =
      get_or-table (length drives) (λ k. curve_of sk mode (get_or drives k nan ⊗ sample)) i nan (omega arith)
      ∙ ap (λ (x : Float). curve_of sk mode (x ⊗ sample)) (at i h)

  -- the first of its outputs that is within is its first amount that serves
  pub part_outputs : (from : ℕ) (drives : List Float) → length drives ≡ part_length → ((i : ℕ) → i < part_length → get_or drives i nan ≡ drive_of mode (amount_of (from + i)))
      → position (within_of wanted tolerance) (curves_of sk mode sample drives) ≡ least_of part_length (λ i. curved_at sk mode sample wanted tolerance (from + i))
  unfolding curved_at curves_of
  part_outputs from drives long at =
      let e : length (curves_of sk mode sample drives) ≡ part_length = length_table (length drives) (λ k. curve_of sk mode (get_or drives k nan ⊗ sample)) ∙ long in
      first_place (within_of wanted tolerance) nan (curves_of sk mode sample drives) ∙ rw e (same_least part_length _ _ (least_alike part_length _ _ (λ i h. ap (within_of wanted tolerance) (output from drives long at i h))))

  -- what serves of Rectify, and of any other mode, is what serves of `distort`
  pub all_rectified : mode ≡ 28 → least_below amounts (rectified_at sample wanted tolerance) ≡ least_below amounts (within_at sk mode sample wanted tolerance)
  unfolding rectified_at within_at ◌>>=◌
  all_rectified e = least_alike amounts _ _ (λ h l. ap (within_of wanted tolerance) (distort_rectified sk mode (amount_of h) sample e))

  pub all_curved : (mode ≡ 28 → ⊥) → least_below amounts (curved_at sk mode sample wanted tolerance) ≡ least_below amounts (within_at sk mode sample wanted tolerance)
  unfolding curved_at within_at ◌>>=◌
  all_curved other =
      least_alike amounts _ _
      (λ h l.
      ap (within_of wanted tolerance)
      (ap (curve_of sk mode) (product_comm (drive_of mode (amount_of h)) sample) ∙ distort_curved sk mode (amount_of h) sample other))
