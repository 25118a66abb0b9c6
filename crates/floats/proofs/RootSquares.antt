-- What `root_units` works out meets `BySquares`: the root by whole-number squares, ties to even. Assumes nothing.
use mathlib.Core.Path.{◌≡◌, refl, sym, subst}
use mathlib.Core.Bool.{true, false}
use Prim.Native.Nat.{ℕ, zero, suc, ◌+◌, ◌-◌, ◌*◌, ◌/◌, ◌%◌, ◌^◌, ◌≤◌, ◌<◌, compare, Ordering}
use native.Mathlib.Nat.{le_trans, le_of_eq, le_of_lt, lt_of_lt_of_le, lt_of_le_of_lt, lt_of_not-le, not-le_of_lt, le_of_suc-le-suc, le_refl, one-mul, mul-le-mul, mul-le-mul_right, mul_assoc, mul_left_comm, mul-lt-mul_of_pos_right, le-div_iff_mul-le, div-mul-le_self, lt-div-mul-add}
use native.Mathlib.Omega.{arith}
use lib.Dec.{is_le, compare_is_eq}
use lib.Arith.{lt_of_le-ne}
use borrow.Author.Tests.{leb-true, leb-false, eqb-true, eqb-false}
use lib.Pow.{pow-add, pow_pos, pow_mono}
use lib.Ieee.{size, nearest, odd}
use lib.Ieee.Digits.{size-lt, size_reaches}
use lib.Ieee.Fits.{kept-lt}
use Rattle.floats.specs.Sqrt.{isqrt, nearer, root_units, BySquares}
use Rattle.floats.proofs.FloorRoot.{floor_root}

-- `nearest` goes by how w lies to h: what holds of each outcome holds of the result
pub by_comparing : (P : ℕ → Type 0) (q w h : ℕ) → (w < h → P q) → (w ≡ h → P (q + q % 2)) → (h < w → P (suc q)) → P (nearest q (compare w h))
by_comparing P q w h below level over = pick (compare w h) (leb-true w h) (leb-false w h) (eqb-true w h) (eqb-false w h)
  where
    pick : (o : Ordering) → (is_le o ≡ true → w ≤ h) → (is_le o ≡ false → h < w) → (compare_is_eq o ≡ true → w ≡ h) → (compare_is_eq o ≡ false → w ≡ h → ⊥) → P (nearest q o)
    pick Ordering.lt most more same other = below (lt_of_le-ne (most refl) (other refl))
    pick Ordering.eq most more same other = level (same refl)
    pick Ordering.gt most more same other = over (more refl)

-- The three outcomes, with p for 2 ^ (k + k) and w for 4 * sq: q * q * p ≤ sq < (q + 1) * (q + 1) * p
record Side (q r p w : ℕ) : Type 0 where
  least : q ≤ r
  most : r ≤ suc q
  above : (2 * r - 1) * (2 * r - 1) * p ≤ w
  under : w ≤ (2 * r + 1) * (2 * r + 1) * p
  tie_above : (2 * r - 1) * (2 * r - 1) * p ≡ w → r % 2 ≡ 0
  tie_under : w ≡ (2 * r + 1) * (2 * r + 1) * p → r % 2 ≡ 0

down_le : (q p : ℕ) → (2 * q - 1) * (2 * q - 1) * p ≤ 4 * (q * q * p)
down_le q p = le_trans (mul-le-mul_right p (mul-le-mul (less q) (less q))) (flat q p)
  where
    less : (q : ℕ) → 2 * q - 1 ≤ 2 * q
    less q = omega arith

    flat : (q p : ℕ) → 2 * q * (2 * q) * p ≤ 4 * (q * q * p)
    flat q p = omega arith

down_lt : (q p : ℕ) → 0 < q → 0 < p → (2 * q - 1) * (2 * q - 1) * p < 4 * (q * q * p)
down_lt q p Q P = lt_of_lt_of_le (mul-lt-mul_of_pos_right (lt_of_le_of_lt (mul-le-mul (le_refl (2 * q - 1)) (less q)) (mul-lt-mul_of_pos_right (under q Q) (twice q Q))) P) (flat q p)
  where
    less : (q : ℕ) → 2 * q - 1 ≤ 2 * q
    less q = omega arith

    under : (q : ℕ) → 0 < q → 2 * q - 1 < 2 * q
    under q Q = omega arith

    twice : (q : ℕ) → 0 < q → 0 < 2 * q
    twice q Q = omega arith

    flat : (q p : ℕ) → 2 * q * (2 * q) * p ≤ 4 * (q * q * p)
    flat q p = omega arith

up_twice : (q : ℕ) → 2 * suc q - 1 ≡ 2 * q + 1
up_twice q = omega arith

-- (2 * q + 3) ^ 2 is above 4 * (q + 1) ^ 2
wide : (q p sq : ℕ) → sq < (q + 1) * (q + 1) * p → 4 * sq < (2 * suc q + 1) * (2 * suc q + 1) * p
wide q p sq h = omega arith

module _ (q p sq : ℕ) (Q : 0 < q) (P : 0 < p) (lo : q * q * p ≤ sq) (hi : sq < (q + 1) * (q + 1) * p) where
  quad : 4 * (q * q * p) ≤ 4 * sq
  quad = omega arith

  flip : (a b : ℕ) → a ≡ b → a < b → ⊥
  flip a b e l = omega arith

  stays : 4 * sq < (2 * q + 1) * (2 * q + 1) * p → Side q q p (4 * sq)
  stays h =
      record {
        least = le_refl q;
        most = omega arith;
        above = le_trans (down_le q p) quad;
        under = le_of_lt h;
        tie_above = λ e. absurd (flip _ _ e (lt_of_lt_of_le (down_lt q p Q P) quad));
        tie_under = λ e. absurd (flip _ _ e h);
      }

  rises : (2 * q + 1) * (2 * q + 1) * p < 4 * sq → Side q (suc q) p (4 * sq)
  rises h =
      record {
        least = omega arith;
        most = le_refl (suc q);
        above = le_of_lt (subst (λ (x : ℕ). x * x * p < 4 * sq) (sym (up_twice q)) h);
        under = le_of_lt (wide q p sq hi);
        tie_above = λ e. absurd (flip _ _ e (subst (λ (x : ℕ). x * x * p < 4 * sq) (sym (up_twice q)) h));
        tie_under = λ e. absurd (flip _ _ e (wide q p sq hi));
      }

  ties : 4 * sq ≡ (2 * q + 1) * (2 * q + 1) * p → Side q (q + q % 2) p (4 * sq)
  ties h = even (q % 2) (small q) refl
    where
      small : (q : ℕ) → q % 2 < 2
      small q = omega arith

      zero_is : (q : ℕ) → q + 0 ≡ q
      zero_is q = omega arith

      one_is : (q : ℕ) → q + 1 ≡ suc q
      one_is q = omega arith

      even_stays : (q : ℕ) → q % 2 ≡ 0 → (q + 0) % 2 ≡ 0
      even_stays q e = omega arith

      odd_moves : (q : ℕ) → q % 2 ≡ 1 → (q + 1) % 2 ≡ 0
      odd_moves q e = omega arith

      even : (r : ℕ) → r < 2 → q % 2 ≡ r → Side q (q + r) p (4 * sq)
      even zero l e =
          record {
            least = omega arith;
            most = omega arith;
            above = subst (λ (x : ℕ). (2 * x - 1) * (2 * x - 1) * p ≤ 4 * sq) (sym (zero_is q)) (le_trans (down_le q p) quad);
            under = subst (λ (x : ℕ). 4 * sq ≤ (2 * x + 1) * (2 * x + 1) * p) (sym (zero_is q)) (le_of_eq h);
            tie_above = λ _. even_stays q e;
            tie_under = λ _. even_stays q e;
          }
      even (suc zero) l e =
          record {
            least = omega arith;
            most = omega arith;
            above = subst (λ (x : ℕ). (2 * x - 1) * (2 * x - 1) * p ≤ 4 * sq) (sym (one_is q)) (subst (λ (x : ℕ). x * x * p ≤ 4 * sq) (sym (up_twice q)) (le_of_eq (sym h)));
            under = subst (λ (x : ℕ). 4 * sq ≤ (2 * x + 1) * (2 * x + 1) * p) (sym (one_is q)) (le_of_lt (wide q p sq hi));
            tie_above = λ _. odd_moves q e;
            tie_under = λ _. odd_moves q e;
          }
      even (suc (suc r)) l e = absurd (no r l)
        where
          no : (r : ℕ) → suc (suc r) < 2 → ⊥
          no r l = omega arith

sq_pow : (a k : ℕ) → a * 2 ^ k * (a * 2 ^ k) ≡ a * a * 2 ^ (k + k)
sq_pow a k = simp (pow-add, mul_assoc, mul_left_comm)

module _ (n : ℕ) (N : 0 < n) where
  abbrev sq : ℕ
  sq = n * 2 ^ 149

  abbrev s : ℕ
  s = isqrt sq

  abbrev k : ℕ
  k = size s - 24

  abbrev q : ℕ
  q = s / 2 ^ k

  -- the floor root has 75 digits at least
  large : 2 ^ 74 ≤ s
  large = le_of_suc-le-suc (lt_of_not-le (λ (g : suc s ≤ 2 ^ 74). not-le_of_lt (floor_root sq).1 (le_trans (mul-le-mul (one_more s (2 ^ 74) g) (one_more s (2 ^ 74) g)) (le_trans (pow_mono {i = 148} {j = 149} (up)) (le_trans (le_of_eq (sym (one-mul (2 ^ 149)))) (mul-le-mul_right (2 ^ 149) N))))))
    where
      one_more : (s w : ℕ) → suc s ≤ w → s + 1 ≤ w
      one_more s w h = omega arith

      up : 148 ≤ 149
      up = omega arith

  digits : 74 < size s
  digits = lt_of_not-le (λ (g : size s ≤ 74). not-le_of_lt (lt_of_lt_of_le (size-lt s) (pow_mono g)) large)

  q_least : 2 ^ 23 ≤ q
  q_least = (le-div_iff_mul-le (pow_pos k)).1 (le_trans (le_of_eq (sym (pow-add 2 23 k))) (size_reaches s (23 + k) (inside (size s) digits)))
    where
      inside : (z : ℕ) → 74 < z → 23 + (z - 24) < z
      inside z h = omega arith

  q_lo : q * q * 2 ^ (k + k) ≤ sq
  q_lo = le_trans (le_of_eq (sym (sq_pow q k))) (le_trans (mul-le-mul (div-mul-le_self s (2 ^ k)) (div-mul-le_self s (2 ^ k))) (floor_root sq).0)

  q_hi : sq < (q + 1) * (q + 1) * 2 ^ (k + k)
  q_hi = lt_of_lt_of_le (floor_root sq).1 (le_trans (mul-le-mul step step) (le_of_eq (sq_pow (q + 1) k)))
    where
      step : s + 1 ≤ (q + 1) * 2 ^ k
      step = from s q (2 ^ k) (lt-div-mul-add {a = s} (pow_pos k))
        where
          from : (s q p : ℕ) → s < q * p + p → s + 1 ≤ (q + 1) * p
          from s q p h = omega arith

  found : Side q (nearer sq k q) (2 ^ (k + k)) (4 * sq)
  found =
      let Q = lt_of_lt_of_le (pow_pos 23) q_least in
      let P = pow_pos (k + k) in
      by_comparing (λ (r : ℕ). Side q r (2 ^ (k + k)) (4 * sq)) q (4 * sq) ((2 * q + 1) * (2 * q + 1) * 2 ^ (k + k)) (stays q (2 ^ (k + k)) sq Q P q_lo q_hi) (ties q (2 ^ (k + k)) sq Q P q_lo q_hi) (rises q (2 ^ (k + k)) sq Q P q_lo q_hi)

  pub root_squares : BySquares sq (nearer sq k q) k × (root_units n ≡ odd 24 false (nearer sq k q) k 149)
  unfolding root_units
  root_squares =
      let f = found in (
        record {
          place = le_trans (mul-le-mul_right (2 ^ (k + k)) (mul-le-mul q_least q_least)) q_lo;
          least = le_trans q_least f.least;
          most = le_trans f.most (kept-lt 24 s);
          above = f.above;
          under = f.under;
          tie_above = f.tie_above;
          tie_under = f.tie_under;
        },
        refl,
      )
