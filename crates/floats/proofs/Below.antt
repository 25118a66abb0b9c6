-- A test at every number below a bound: it is computed once, and holds at each. Assumes nothing.
use mathlib.Core.Path.{sym, subst}
use mathlib.Core.Logic.{inl, inr}
use mathlib.Core.Bool.{Bool, true, ◌&&◌}
use Prim.Native.Nat.{ℕ, zero, suc, ◌<◌}
use native.Mathlib.Nat.{eq-or-lt_of_le, le_of_suc-le-suc, not-suc-le-zero}
use lib.Dec.{T}
use lib.Ieee.Fits.{and_l, and_r}

-- the test passes at n - 1, n - 2 and so on down to 0
abbrev pub below : ℕ → (ℕ → Bool) → Bool
below zero test = true
below (suc n) test = test n && below n test

pub each : (n : ℕ) (test : ℕ → Bool) → T (below n test) → (k : ℕ) → k < n → T (test k)
each zero test t k h = absurd (not-suc-le-zero h)
each (suc n) test t k h = elim (eq-or-lt_of_le (le_of_suc-le-suc h)) [
  | inl e ↦ subst (λ (i : ℕ). T (test i)) (sym e) (and_l (test n) (below n test) t)
  | inr l ↦ each n test (and_r (test n) (below n test) t) k l
]
