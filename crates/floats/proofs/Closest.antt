-- The whole number closest to n / d: an even number more, or what is left of an even number. Assumes nothing.
use mathlib.Core.Path.{◌≡◌, refl, sym, subst}
use Prim.Native.Nat.{ℕ, zero, suc, ◌+◌, ◌-◌, ◌*◌, ◌/◌, ◌%◌, ◌<◌, compare, Ordering}
use native.Mathlib.Nat.{zero-add, zero-lt-suc, mod-lt, mod-eq_of_lt, div-eq_of_lt, div-add-mod', div-lt_iff_lt-mul, add-mul-div_right, add-mul-mod_self_right}
use native.Mathlib.Omega.{arith}
use lib.Ieee.{nearest}
use lib.Ieee.Nearest.{closest}
use Rattle.floats.proofs.NearWhole.{least}
use Rattle.floats.proofs.RootSquares.{by_comparing}

more : (q a : ℕ) (o : Ordering) → a % 2 ≡ 0 → nearest (q + a) o ≡ nearest q o + a
more q a Ordering.lt E = refl
more q a Ordering.eq E = omega arith
more q a Ordering.gt E = omega arith

pub closest_more : (n d a : ℕ) → 0 < d → a % 2 ≡ 0 → closest (n + a * d) d ≡ closest n d + a
closest_more n d a D E = rw (add-mul-div_right n a D, add-mul-mod_self_right n a d) (more (n / d) a (compare (n % d * 2) d) E)

-- by the quotient q and the rest r
at : (r q d : ℕ) → 0 < d → r < d → closest (r + q * d) d ≡ nearest q (compare (r * 2) d)
at r q d D h = rw (add-mul-div_right r q D, add-mul-mod_self_right r q d, div-eq_of_lt h, mod-eq_of_lt h, zero-add q) refl

none : (p q d : ℕ) → 0 < d → closest ((p + q) * d - (0 + q * d)) d + closest (0 + q * d) d ≡ p + q
none p q d D = rw (left, at 0 p d D D, at 0 q d D D, least d D) refl
  where
    left : (p + q) * d - (0 + q * d) ≡ 0 + p * d
    left = omega arith

some : (p q r d : ℕ) → 0 < r → r < d → (p + q + 1) % 2 ≡ 0 → closest ((p + q + 1) * d - (r + q * d)) d + closest (r + q * d) d ≡ p + q + 1
some p q r d P h E =
    rw (left, at (d - r) p d D (omega arith), at r q d D h)
    (by_comparing (λ (k : ℕ). nearest p (compare ((d - r) * 2) d) + k ≡ p + q + 1) q (r * 2) d
    (λ (l : r * 2 < d). by_comparing (λ (k : ℕ). k + q ≡ p + q + 1) p ((d - r) * 2) d (λ g. omega arith) (λ g. omega arith) (λ g. omega arith))
    (λ (l : r * 2 ≡ d). by_comparing (λ (k : ℕ). k + (q + q % 2) ≡ p + q + 1) p ((d - r) * 2) d (λ g. omega arith) (λ g. omega arith) (λ g. omega arith))
    (λ (l : d < r * 2). by_comparing (λ (k : ℕ). k + suc q ≡ p + q + 1) p ((d - r) * 2) d (λ g. omega arith) (λ g. omega arith) (λ g. omega arith)))
  where
    D : 0 < d
    D = omega arith

    left : (p + q + 1) * d - (r + q * d) ≡ d - r + p * d
    left = omega arith

abbrev Left : ℕ → ℕ → ℕ → Type 0
Left d n a = closest (a * d - n) d + closest n d ≡ a

pub closest_less : (n d a : ℕ) → 0 < d → a % 2 ≡ 0 → n < a * d → Left d n a
closest_less n d a D E h = go (n % d) refl
  where
    Q : n / d < a
    Q = (div-lt_iff_lt-mul D).1 h

    go : (r : ℕ) → n % d ≡ r → Left d n a
    go zero z = subst (λ (x : ℕ). Left d x a) whole (subst (λ (x : ℕ). Left d (0 + n / d * d) x) parts (none (a - n / d) (n / d) d D))
      where
        parts : a - n / d + n / d ≡ a
        parts = omega (arith, Q)

        whole : 0 + n / d * d ≡ n
        whole = omega (arith, z, div-add-mod' n d)
    go (suc r) z =
        subst (λ (x : ℕ). Left d x a) whole
        (subst (λ (x : ℕ). Left d (suc r + n / d * d) x) parts (some (a - suc (n / d)) (n / d) (suc r) d (zero-lt-suc r) (subst (λ (x : ℕ). x < d) z (mod-lt n D)) (subst (λ (x : ℕ). x % 2 ≡ 0) (sym parts) E)))
      where
        parts : a - suc (n / d) + n / d + 1 ≡ a
        parts = omega (arith, Q)

        whole : suc r + n / d * d ≡ n
        whole = omega (arith, z, div-add-mod' n d)
