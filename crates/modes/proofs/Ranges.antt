-- An arm of a `match` on numbers that answers v, against a function f: where f is v at each number of the arm, which is one equation of
-- two lists that antt computes, f is v at any number that comes to the arm. Assumes nothing.
use Prim.Native.Nat.{ℕ, zero, suc, ◌+◌, ◌-◌, ◌≤◌, ◌<◌}
use native.Mathlib.Omega.{arith}
use native.Mathlib.Nat.{eq-or-lt_of_le}
use mathlib.Core.Path.{◌≡◌, ap, sym, subst, ◌∙◌}
use mathlib.Core.Bool.{Bool, true, false, not, ◌||◌}
use mathlib.Core.List.{List, [], ◌∷◌, map}
use mathlib.Core.Logic.{◌⊎◌, inl, inr, ⊎_elim}
use lib.Dec.{T, ltb, ltb→lt, nltb→le}
use lib.ListN.{length, replicate}
use types.Run.{OneOf, hit}
use mir.Val.{has_key}

abbrev pub from : ℕ → ℕ → List ℕ
from i zero = []
from i (suc n) = i ∷ from (suc i) n

module _ {A : Type 0} where
  abbrev head : A → List A → A
  head d [] = d
  head d (x ∷ xs) = x

  abbrev tail : List A → List A
  tail [] = []
  tail (x ∷ xs) = xs

  go : (f : ℕ → A) (v : A) (i n : ℕ) → map f (from i n) ≡ replicate n v → (m : ℕ) → i ≤ m → m < i + n → v ≡ f m
  go f v i zero e m a b = absurd (omega arith)
  go f v i (suc n) e m a b =
      ⊎_elim (λ h. sym (ap (head v) e) ∙ ap f h) (λ h. go f v (suc i) n (ap tail e) m h (omega arith)) (eq-or-lt_of_le a)

  -- an arm `lo..=hi - 1 => v`
  pub range : (f : ℕ → A) (v : A) (lo hi : ℕ) → map f (from lo (hi - lo)) ≡ replicate (hi - lo) v → {m : ℕ} → lo ≤ m → m < hi → v ≡ f m
  range f v lo hi e {m} a b = go f v lo (hi - lo) e m a (omega arith)

  -- an arm `k | .. => v`
  pub keys : (f : ℕ → A) (v : A) (ks : List ℕ) → map f ks ≡ replicate (length ks) v → {m : ℕ} → OneOf ks m → v ≡ f m
  keys f v [] e o = absurd o
  keys f v (k ∷ []) e o = sym (ap (head v) e) ∙ ap f (sym o)
  keys f v (k ∷ l ∷ ls) e o = ⊎_elim (λ h. sym (ap (head v) e) ∙ ap f (sym h)) (keys f v (l ∷ ls) (ap tail e)) o

-- ---- an arm `_` after arms of keys

-- what it knows, the last arm first: the number is no key
abbrev pub Missed : List (List ℕ) → ℕ → Type 0
Missed [] m = Unit
Missed (ks ∷ kss) m = Missed kss m × (OneOf ks m → ⊥)

abbrev pub any_key : List (List ℕ) → ℕ → Bool
any_key [] m = false
any_key (ks ∷ kss) m = has_key ks m || any_key kss m

one_side : (a b : Bool) → T (a || b) → T a ⊎ T b
one_side true b t = inl t
one_side false b t = inr t

yes_or_no : (b : Bool) → T b ⊎ T (not b)
yes_or_no true = inl tt
yes_or_no false = inr tt

none : (kss : List (List ℕ)) (m : ℕ) → Missed kss m → T (any_key kss m) → ⊥
none [] m missed t = t
none (ks ∷ kss) m missed t = ⊎_elim (λ h. missed.1 (hit ks m h)) (none kss m missed.0) (one_side (has_key ks m) (any_key kss m) t)

-- where the keys take up all from lo to below hi, what is no key is not there
pub past : (kss : List (List ℕ)) (lo hi : ℕ) → map (any_key kss) (from lo (hi - lo)) ≡ replicate (hi - lo) true → {m : ℕ} → Missed kss m → lo ≤ m → hi ≤ m
past kss lo hi e {m} missed a =
    ⊎_elim (λ h. absurd (none kss m missed (subst T (range (any_key kss) true lo hi e a (ltb→lt m hi h)) tt))) (nltb→le m hi) (yes_or_no (ltb m hi))
