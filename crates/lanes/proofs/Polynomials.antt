-- The laws of polynomials. Assumes nothing.
use mathlib.Core.Path.{◌≡◌, refl, sym, ap, ◌∙◌}
use mathlib.Core.List.{List, [], ◌∷◌, ◌++◌, append_assoc}
use Prim.Native.Nat.{ℕ, suc, ◌-◌, ◌≤◌}
use native.Mathlib.Omega.{arith}
use lib.ListN.{length, get_or, take, drop, length-append, take-append-drop}
use lib.Seq.{get_or_at, length-take-le}
use lib.Ieee.{Float, nan}
use Rattle.floats.specs.F32.{◌⊗◌, ◌⊕◌}
use Rattle.lanes.specs.Maths.{horner}

-- ---- whose count of coefficients is known

pub from : (ks : List Float) (x : Float) {r : Float} (n : ℕ) → length ks ≡ suc n → r ≡ horner ks x (length ks - 1) (get_or ks (length ks - 1) nan)
    → r ≡ horner ks x n (get_or ks n nan)
from ks x n e h = let last : length ks - 1 ≡ n = omega arith in rw last at h

-- ---- from the last coefficient down: what is left of them, and that it gives the whole

pub record Left (ks : List Float) (x q : Float) (rest : List Float) (p : Float) : Type 0 where
  pub passed : List Float
  pub whole : ks ≡ rest ++ passed
  pub same : q ≡ horner ks x (length rest) p

module _ (ks : List Float) (x q : Float) where
  pub left_all : (n : ℕ) (rest : List Float) (p : Float) → n ≤ length ks → rest ≡ take n ks → q ≡ horner ks x n p → Left ks x q rest p
  left_all n rest p few e same =
      record { passed = drop n ks; whole = rw e (sym (take-append-drop n ks)); same = rw (e, length-take-le n ks few) same }

  pub left_less : (rest rest' : List Float) (p c : Float) → rest ≡ rest' ++ c ∷ [] → Left ks x q rest p → Left ks x q rest' (p ⊗ x ⊕ c)
  unfolding horner
  left_less rest rest' p c e l =
      let whole : ks ≡ rest' ++ c ∷ l.passed = rw e at l.whole ∙ append_assoc rest' (c ∷ []) l.passed in
      let long : length rest ≡ suc (length rest') = rw e (omega (arith, length-append rest' (c ∷ []))) in
      let here : get_or ks (length rest') nan ≡ c = rw whole (get_or_at rest' c l.passed nan (length rest') refl) in
      record { passed = c ∷ l.passed; whole = whole; same = (rw long at l.same) ∙ ap (λ k. horner ks x (length rest') (p ⊗ x ⊕ k)) here }

  pub left_none : (rest : List Float) (p : Float) → length rest ≡ 0 → Left ks x q rest p → p ≡ q
  unfolding horner
  left_none rest p e l = sym (rw e at l.same)
