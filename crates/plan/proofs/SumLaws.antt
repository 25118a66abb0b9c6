-- The laws of sums. Assumes nothing.
use mathlib.Core.Path.{◌≡◌, refl}
use Prim.Native.Nat.{ℕ, zero, suc, ◌*◌, ◌≤◌, ◌<◌}
use native.Mathlib.Nat.{suc-mul, zero-mul, mul-add}
use native.Mathlib.Omega.{arith}
use Rattle.plan.specs.Sums.{sum}

pub sum_same : (n : ℕ) (f g : ℕ → ℕ) → ((i : ℕ) → i < n → f i ≡ g i) → sum n f ≡ sum n g
unfolding sum
sum_same zero f g h = refl
sum_same (suc n) f g h = rw (sum_same n f g (λ i l. h i (omega arith)), h n (omega arith))

pub sum_const : (n k : ℕ) → sum n (λ _. k) ≡ n * k
unfolding sum
sum_const zero k = rw zero-mul
sum_const (suc n) k = rw (sum_const n k, suc-mul)

pub sum_most : (n k : ℕ) (f : ℕ → ℕ) → ((i : ℕ) → i < n → f i ≤ k) → sum n f ≤ n * k
unfolding sum
sum_most zero k f h = omega arith
sum_most (suc n) k f h = omega (arith, sum_most n k f (λ i l. h i (omega arith)), h n (omega arith), suc-mul n k)

pub sum_times : (n k : ℕ) (f : ℕ → ℕ) → sum n (λ i. k * f i) ≡ k * sum n f
unfolding sum
sum_times zero k f = omega arith
sum_times (suc n) k f = rw (sum_times n k f, mul-add)
