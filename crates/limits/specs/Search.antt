-- A search among the numbers below k: whether one of them has a property, and the least that has it. Definitions only.
use Rattle.std.specs.Prelude.{◌≡◌, Bool, true, false, cond, ◌||◌, ℕ, zero, suc, ◌≤◌, ◌<◌}

-- whether some number below k has p
unfoldable pub some_below : ℕ → (ℕ → Bool) → Bool
some_below zero p = false
some_below (suc k) p = some_below k p || p k

-- the least number below k that has p, or k
unfoldable pub least_below : ℕ → (ℕ → Bool) → ℕ
least_below zero p = zero
least_below (suc k) p = cond (p zero) zero (suc (least_below k (λ i. p (suc i))))

-- n is the least number below k that has p: it has it, and no smaller one does; or n is k, and none below has it
pub record Least (k : ℕ) (p : ℕ → Bool) (n : ℕ) : Type 0 where
  pub most : n ≤ k
  pub there : n < k → p n ≡ true
  pub before : (i : ℕ) → i < n → p i ≡ false
