-- Whatever q and k meet `BySquares` are the same f32, that of `root_units` (`root_only`), so the whole number nearest a root gives it (`of_nearest`). Assumes nothing.
use mathlib.Core.Path.{◌≡◌, sym, ap, ◌∙◌, subst}
use mathlib.Core.Bool.{false}
use Prim.Native.Nat.{ℕ, zero, suc, ◌+◌, ◌-◌, ◌*◌, ◌%◌, ◌^◌, ◌≤◌, ◌<◌}
use native.Mathlib.Nat.{add-zero, le_antisymm, le_of_mul-le-mul_right, le_dest, le_trans, le_of_eq, le_of_lt, lt_of_not-le, le_of_suc-le-suc, mul-le-mul, mul-le-mul_right, mul_assoc, mul_comm, mul_left_comm, mul-lt-mul_of_pos_right}
use native.Mathlib.Decide.{dec_le}
use native.Mathlib.Omega.{arith}
use lib.Pow.{pow-add, pow_pos, pow_mono}
use lib.Ieee.{fin, minus, odd}
use Rattle.floats.specs.Promises.{NearestRoot}
use Rattle.floats.specs.Sqrt.{root_units, BySquares}
use Rattle.floats.proofs.RootSquares.{root_squares}

root_le : (a b : ℕ) → a * a ≤ b * b → a ≤ b
root_le a b h = le_of_suc-le-suc (lt_of_not-le (λ (g : suc b ≤ a). no (mul-le-mul g g)))
  where
    no : suc b * suc b ≤ a * a → ⊥
    no l = omega arith

-- a / 2 above b / 2 by squares at one place: 2 ^ (k + k) is left out
sides : (a b k w : ℕ) → a * a * 2 ^ (k + k) ≤ w → w ≤ b * b * 2 ^ (k + k) → a ≤ b
sides a b k w lo hi = root_le a b (le_of_mul-le-mul_right (le_trans lo hi) (pow_pos (k + k)))

-- at one place k: neither q is above the other, since next to each other both would be even
not_above : (sq q r k : ℕ) → BySquares sq q k → BySquares sq r k → q ≤ r
not_above sq q r k x y = elim (dec_le q r) [ yes h ↦ h | no g ↦ absurd (clash (lt_of_not-le g)) ]
  where
    close : 2 * q - 1 ≤ 2 * r + 1
    close = sides (2 * q - 1) (2 * r + 1) k (4 * sq) x.above y.under

    clash : r < q → ⊥
    clash h =
        let l = close in
        let e : 2 * q - 1 ≡ 2 * r + 1 = omega arith in
        let f : (2 * q - 1) * (2 * q - 1) * 2 ^ (k + k) ≡ (2 * r + 1) * (2 * r + 1) * 2 ^ (k + k) = ap (λ (z : ℕ). z * z * 2 ^ (k + k)) e in
        let w : (2 * q - 1) * (2 * q - 1) * 2 ^ (k + k) ≡ 4 * sq = le_antisymm x.above (le_trans y.under (le_of_eq (sym f))) in
        both q r (x.tie_above w) (y.tie_under (sym w ∙ f)) (omega arith)
      where
        both : (q r : ℕ) → q % 2 ≡ 0 → r % 2 ≡ 0 → q ≡ r + 1 → ⊥
        both q r a b e = omega arith

-- q at the place k against r at a place d higher: the root is 2 ^ 23 * 2 ^ (k + d) at least, and (q + 1/2) * 2 ^ k at most
module _ (sq q r k d : ℕ) (x : BySquares sq q k) (y : BySquares sq r (k + d)) where
  power : 2 ^ (k + d + (k + d)) ≡ 2 ^ d * 2 ^ d * 2 ^ (k + k)
  power = simp (pow-add, mul_assoc, mul_comm, mul_left_comm)

  reach : 16777216 * 2 ^ d ≤ 2 * q + 1
  reach = sides (16777216 * 2 ^ d) (2 * q + 1) k (4 * sq) (low (2 ^ d) (2 ^ (k + k)) (subst (λ (z : ℕ). 70368744177664 * z ≤ sq) power y.place)) x.under
    where
      low : (p w : ℕ) → 70368744177664 * (p * p * w) ≤ sq → 16777216 * p * (16777216 * p) * w ≤ 4 * sq
      low p w h = omega arith

  fall : 2 ^ d * (2 * r - 1) ≤ 2 * q + 1
  fall = sides (2 ^ d * (2 * r - 1)) (2 * q + 1) k (4 * sq) (low (2 ^ d) (2 * r - 1) (2 ^ (k + k)) (subst (λ (z : ℕ). (2 * r - 1) * (2 * r - 1) * z ≤ 4 * sq) power y.above)) x.under
    where
      low : (p u w : ℕ) → u * u * (p * p * w) ≤ 4 * sq → p * u * (p * u) * w ≤ 4 * sq
      low p u w h = omega arith

-- 2 ^ 24 at the place k is 2 ^ 23 at the next
carry : (k l : ℕ) → odd 24 false 16777216 k l ≡ odd 24 false 8388608 (k + 1) l
unfolding odd
carry k l = ap (λ (z : ℕ). fin false 1 (minus z l)) (sum k)
  where
    sum : (k : ℕ) → k + 24 ≡ k + 1 + 23
    sum k = omega arith

same_place : (sq q r k l : ℕ) → BySquares sq q k → BySquares sq r k → odd 24 false q k l ≡ odd 24 false r k l
same_place sq q r k l x y = ap (λ (z : ℕ). odd 24 false z k l) (le_antisymm (not_above sq q r k x y) (not_above sq r q k y x))

same_above : (sq q r k d l : ℕ) → BySquares sq q k → BySquares sq r (k + d) → odd 24 false q k l ≡ odd 24 false r (k + d) l
same_above sq q r k zero l x y =
    subst (λ (j : ℕ). BySquares sq r j → odd 24 false q k l ≡ odd 24 false r j l) (sym (add-zero k)) (same_place sq q r k l x) y
same_above sq q r k (suc zero) l x y =
    let a = reach sq q r k 1 x y in
    let b = fall sq q r k 1 x y in
    let p : 16777216 ≡ q = omega (arith, x.most) in
    let o : 8388608 ≡ r = omega (arith, y.least) in
    subst (λ (z : ℕ). odd 24 false z k l ≡ odd 24 false r (k + 1) l) p (subst (λ (z : ℕ). odd 24 false 16777216 k l ≡ odd 24 false z (k + 1) l) o (carry k l))
same_above sq q r k (suc (suc d)) l x y = absurd (no (2 ^ suc (suc d)) (pow_mono {i = 2} (omega arith)) (reach sq q r k (suc (suc d)) x y))
  where
    no : (p : ℕ) → 4 ≤ p → 16777216 * p ≤ 2 * q + 1 → ⊥
    no p g h = omega (arith, x.most)

same : (sq q r k j l : ℕ) → BySquares sq q k → BySquares sq r j → odd 24 false q k l ≡ odd 24 false r j l
same sq q r k j l x y = elim (dec_le k j) [
  | yes h ↦ up q r k j h x y
  | no g ↦ sym (up r q j k (le_of_lt (lt_of_not-le g)) y x)
]
  where
    up : (q r k j : ℕ) → k ≤ j → BySquares sq q k → BySquares sq r j → odd 24 false q k l ≡ odd 24 false r j l
    up q r k j h x y =
        let d = le_dest h in
        subst (λ (i : ℕ). BySquares sq r i → odd 24 false q k l ≡ odd 24 false r i l) d.1 (same_above sq q r k d.0 l x) y

pub root_only : (n q k : ℕ) → 0 < n → BySquares (n * 2 ^ 149) q k → root_units n ≡ odd 24 false q k 149
root_only n q k N x = let s = root_squares n N in s.1 ∙ same (n * 2 ^ 149) _ q _ k 149 s.0 x

-- A whole number q nearest the root of N, where sq is N * 4 ^ k. No root lies half way: four times a whole number is no odd square.
pub of_nearest : (sq N q k : ℕ) → sq ≡ N * 2 ^ (k + k) → 2 ^ 46 ≤ N → NearestRoot N q → BySquares sq q k
of_nearest sq N q k e least near =
    record {
      place = le_trans (mul-le-mul_right (2 ^ (k + k)) least) (le_of_eq (sym e));
      least = near.low;
      most = le_of_lt near.high;
      above = le_of_lt above;
      under = le_of_lt under;
      tie_above = λ w. absurd (flip _ _ w above);
      tie_under = λ w. absurd (flip _ _ w under);
    }
  where
    flip : (a b : ℕ) → a ≡ b → a < b → ⊥
    flip a b e l = omega arith

    four : 4 * sq ≡ 4 * N * 2 ^ (k + k)
    four = ap (λ (x : ℕ). 4 * x) e ∙ sym (mul_assoc 4 N (2 ^ (k + k)))

    less : (q N : ℕ) → 2 ^ 23 ≤ q → q * q < N + q → (2 * q - 1) * (2 * q - 1) < 4 * N
    less zero N l h = absurd (omega arith)
    less (suc p) N l h = subst (λ (z : ℕ). z * z < 4 * N) (sym (twice p)) (omega arith)
      where
        twice : (p : ℕ) → 2 * suc p - 1 ≡ 2 * p + 1
        twice p = omega arith

    more : (q N : ℕ) → N ≤ q * q + q → 4 * N < (2 * q + 1) * (2 * q + 1)
    more q N h = omega arith

    above : (2 * q - 1) * (2 * q - 1) * 2 ^ (k + k) < 4 * sq
    above = subst (λ (z : ℕ). (2 * q - 1) * (2 * q - 1) * 2 ^ (k + k) < z) (sym four) (mul-lt-mul_of_pos_right (less q N near.low near.above) (pow_pos (k + k)))

    under : 4 * sq < (2 * q + 1) * (2 * q + 1) * 2 ^ (k + k)
    under = subst (λ (z : ℕ). z < (2 * q + 1) * (2 * q + 1) * 2 ^ (k + k)) (sym four) (mul-lt-mul_of_pos_right (more q N near.under) (pow_pos (k + k)))
