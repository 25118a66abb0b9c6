-- The digits of an f32 shifted down to a whole number of 65,536ths: the program's shift by at most 25 gives the floor that `steps_of` says. Assumes nothing.
use mathlib.Core.Path.{◌≡◌, sym, ap, ◌∙◌, subst}
use mathlib.Core.Logic.{inl, inr}
use Prim.Native.Nat.{ℕ, suc, ◌+◌, ◌-◌, ◌*◌, ◌/◌, ◌^◌, ◌≤◌, ◌<◌, min}
use native.Mathlib.Nat.{le_trans, le_of_eq, lt_of_lt_of_le, lt_of_not-le, not-le_of_lt, le_of_suc-le-suc, mul_assoc, mul_comm, mul-le-mul, mul-pos, le_of_mul-le-mul_right, eq-zero-or-pos, mul-div_cancel, zero-mul, sub-zero}
use native.Mathlib.Decide.{dec_le}
use native.Mathlib.Omega.{arith}
use lib.Arith.{digits_div}
use lib.Pow.{pow-add, pow_pos, pow_mono, pow-lt, shl_lt}
use lib.Ieee.Nearest.{div_same}
use Rattle.floats.specs.Pattern.{significand_of, exponent_of}
use Rattle.floats.proofs.Patterns.{significand_ge}
use Rattle.floats.proofs.Sums.{sub_mul}

-- ---- the place of an f32 that is 128 at most
pub exponent_le : (b : ℕ) → significand_of b * 2 ^ exponent_of b ≤ 8388608 * 2 ^ 133 → exponent_of b ≤ 133
exponent_le b h = le_of_suc-le-suc (lt_of_not-le (λ (g : 134 ≤ exponent_of b). not-le_of_lt (pow-lt {i = 156} {j = 157} (lt)) (le_trans (le_of_eq (pow-add 2 23 134)) (le_trans (mul-le-mul (significand_ge b (some (exponent_of b) g)) (pow_mono g)) h))))
  where
    lt : 156 < 157
    lt = omega arith

    some : (p : ℕ) → 134 ≤ p → 0 < p
    some p g = omega arith

-- ---- floors
above : (D t : ℕ) → t < D → (8388608 * D + t) / D ≡ 8388608
above D t h = digits_div 8388608 h

less : (D t : ℕ) → 0 < t → t ≤ D → (8388608 * D - t) / D ≡ 8388607
less D t p h = ap (λ (x : ℕ). x / D) (split D t h) ∙ digits_div 8388607 (rest D t p h)
  where
    split : (D t : ℕ) → t ≤ D → 8388608 * D - t ≡ 8388607 * D + (D - t)
    split D t h = omega arith

    rest : (D t : ℕ) → 0 < t → t ≤ D → D - t < D
    rest D t p h = omega arith

none : (D : ℕ) → 0 < D → (8388608 * D - 0) / D ≡ 8388608
none D p = ap (λ (x : ℕ). x / D) (sub-zero (8388608 * D)) ∙ mul-div_cancel 8388608 p

-- ---- m * 2 ^ j, against 2 ^ 133, where j + s = 133
module _ (m j s : ℕ) (J : j + s ≡ 133) where
  whole : 2 ^ 133 ≡ 2 ^ j * 2 ^ s
  whole = ap (λ (x : ℕ). 2 ^ x) (sym J) ∙ pow-add 2 j s

  top : 8388608 * 2 ^ s * 2 ^ 133 ≡ 8388608 * 2 ^ 133 * 2 ^ s
  top = simp (mul_assoc, mul_comm)

  part : m * 2 ^ 133 ≡ m * 2 ^ j * 2 ^ s
  part = ap (λ (x : ℕ). m * x) whole ∙ sym (mul_assoc m (2 ^ j) (2 ^ s))

  plus_exact : (8388608 * 2 ^ s + m) / 2 ^ s ≡ (8388608 * 2 ^ 133 + m * 2 ^ j) / 2 ^ 133
  plus_exact = div_same (8388608 * 2 ^ s + m) (2 ^ s) (8388608 * 2 ^ 133 + m * 2 ^ j) (2 ^ 133) (pow_pos s) (pow_pos 133) (sum (8388608 * 2 ^ s) m (8388608 * 2 ^ 133) (m * 2 ^ j) (2 ^ 133) (2 ^ s) top part)
    where
      sum : (a b c d x y : ℕ) → a * x ≡ c * y → b * x ≡ d * y → (a + b) * x ≡ (c + d) * y
      sum a b c d x y p q = omega arith

  minus_exact : (8388608 * 2 ^ s - m) / 2 ^ s ≡ (8388608 * 2 ^ 133 - m * 2 ^ j) / 2 ^ 133
  minus_exact =
      div_same (8388608 * 2 ^ s - m) (2 ^ s) (8388608 * 2 ^ 133 - m * 2 ^ j) (2 ^ 133) (pow_pos s) (pow_pos 133)
      (sub_mul (8388608 * 2 ^ s) m (2 ^ 133) ∙ ap (λ (x : ℕ). x - m * 2 ^ 133) top ∙ ap (λ (x : ℕ). 8388608 * 2 ^ 133 * 2 ^ s - x) part ∙ sym (sub_mul (8388608 * 2 ^ 133) (m * 2 ^ j) (2 ^ s)))

-- ---- where m * 2 ^ j is small
module _ (m j : ℕ) (M : m < 2 ^ 24) (J : j < 108) where
  small : m * 2 ^ j < 2 ^ 133
  small = lt_of_lt_of_le (shl_lt 24 j M) (pow_mono {i = 24 + j} {j = 133} (omega arith))

  plus_small : (8388608 * 2 ^ 25 + m) / 2 ^ 25 ≡ (8388608 * 2 ^ 133 + m * 2 ^ j) / 2 ^ 133
  plus_small = above (2 ^ 25) m (omega arith) ∙ sym (above (2 ^ 133) (m * 2 ^ j) small)

  minus_small : (8388608 * 2 ^ 25 - m) / 2 ^ 25 ≡ (8388608 * 2 ^ 133 - m * 2 ^ j) / 2 ^ 133
  minus_small = elim (eq-zero-or-pos m) [
    | inl z ↦
        subst (λ (x : ℕ). (8388608 * 2 ^ 25 - x) / 2 ^ 25 ≡ (8388608 * 2 ^ 133 - x * 2 ^ j) / 2 ^ 133) (sym z)
        (none (2 ^ 25) (pow_pos 25) ∙ sym (ap (λ (x : ℕ). (8388608 * 2 ^ 133 - x) / 2 ^ 133) (zero-mul (2 ^ j)) ∙ none (2 ^ 133) (pow_pos 133)))
    | inr p ↦ less (2 ^ 25) m p (omega arith) ∙ sym (less (2 ^ 133) (m * 2 ^ j) (mul-pos p (pow_pos j)) (le_of_suc-le-suc (lt_of_lt_of_le small (up (2 ^ 133)))))
  ]
    where
      up : (w : ℕ) → w ≤ suc w
      up w = omega arith

-- ---- both
module _ (m j : ℕ) (M : m < 2 ^ 24) (J : j ≤ 133) where
  pub plus : (8388608 * 2 ^ min 25 (133 - j) + m) / 2 ^ min 25 (133 - j) ≡ (8388608 * 2 ^ 133 + m * 2 ^ j) / 2 ^ 133
  plus = elim (dec_le 108 j) [
    | yes h ↦ subst (λ (s : ℕ). (8388608 * 2 ^ s + m) / 2 ^ s ≡ (8388608 * 2 ^ 133 + m * 2 ^ j) / 2 ^ 133) (long h) (plus_exact m j (133 - j) (omega arith))
    | no g ↦ subst (λ (s : ℕ). (8388608 * 2 ^ s + m) / 2 ^ s ≡ (8388608 * 2 ^ 133 + m * 2 ^ j) / 2 ^ 133) (short (lt_of_not-le g)) (plus_small m j M (lt_of_not-le g))
  ]
    where
      long : 108 ≤ j → 133 - j ≡ min 25 (133 - j)
      long h = omega arith

      short : j < 108 → 25 ≡ min 25 (133 - j)
      short h = omega arith

  pub minus : (8388608 * 2 ^ min 25 (133 - j) - m) / 2 ^ min 25 (133 - j) ≡ (8388608 * 2 ^ 133 - m * 2 ^ j) / 2 ^ 133
  minus = elim (dec_le 108 j) [
    | yes h ↦ subst (λ (s : ℕ). (8388608 * 2 ^ s - m) / 2 ^ s ≡ (8388608 * 2 ^ 133 - m * 2 ^ j) / 2 ^ 133) (long h) (minus_exact m j (133 - j) (omega arith))
    | no g ↦ subst (λ (s : ℕ). (8388608 * 2 ^ s - m) / 2 ^ s ≡ (8388608 * 2 ^ 133 - m * 2 ^ j) / 2 ^ 133) (short (lt_of_not-le g)) (minus_small m j M (lt_of_not-le g))
  ]
    where
      long : 108 ≤ j → 133 - j ≡ min 25 (133 - j)
      long h = omega arith

      short : j < 108 → 25 ≡ min 25 (133 - j)
      short h = omega arith

  -- the program's difference does not go below zero
  pub room : m * 2 ^ j ≤ 8388608 * 2 ^ 133 → m ≤ 8388608 * 2 ^ min 25 (133 - j)
  room h = elim (dec_le 108 j) [
    | yes g ↦ subst (λ (s : ℕ). m ≤ 8388608 * 2 ^ s) (long g) (le_of_mul-le-mul_right (le_trans h (le_of_eq (ap (λ (x : ℕ). 8388608 * x) (swapped g) ∙ sym (mul_assoc 8388608 (2 ^ (133 - j)) (2 ^ j))))) (pow_pos j))
    | no g ↦ subst (λ (s : ℕ). m ≤ 8388608 * 2 ^ s) (short (lt_of_not-le g)) (omega arith)
  ]
    where
      long : 108 ≤ j → 133 - j ≡ min 25 (133 - j)
      long h = omega arith

      short : j < 108 → 25 ≡ min 25 (133 - j)
      short h = omega arith

      swapped : 108 ≤ j → 2 ^ 133 ≡ 2 ^ (133 - j) * 2 ^ j
      swapped g = ap (λ (x : ℕ). 2 ^ x) (sums) ∙ pow-add 2 (133 - j) j
        where
          sums : 133 ≡ 133 - j + j
          sums = omega arith
