-- `exp2_of`, case by case, and at the pattern of an f32 that is neither a NaN nor out of range. Assumes nothing.
use mathlib.Core.Path.{◌≡◌, refl, sym, ap, ◌∙◌, subst}
use mathlib.Core.Logic.{inl, inr}
use mathlib.Core.Bool.{Bool, true, false, cond, ◌&&◌, ◌||◌, true≢false}
use Prim.Native.Nat.{ℕ, ◌+◌, ◌-◌, ◌*◌, ◌/◌, ◌%◌, ◌^◌, ◌≤◌, ◌<◌}
use native.Mathlib.Nat.{le_trans, le_of_eq, lt_of_lt_of_le, lt_of_le_of_lt, eq-or-lt_of_le, le_of_mul-le-mul_right, lt_of_mul-lt-mul_right, mul-one, mul_assoc, mul_right_comm, mul-le-mul_right, mul-lt-mul_of_pos_right, div-lt_iff_lt-mul, le-div_iff_mul-le}
use native.Mathlib.Omega.{arith}
use lib.Dec.{leb, ltb, eqb}
use lib.Arith.{lt_of_le-ne}
use lib.Pow.{pow_pos}
use lib.IntN.{pos}
use lib.Ieee.{Float, nan, inf, fin, binary32, up, down, of_fields, of_bits, is_nan, le, lt}
use lib.Ieee.Fits.{down_pos}
use lib.Ieee.Exact.{HasValue}
use lib.Ieee.Nearest.{div_same}
use lib.Ieee.Scale.{finite}
use borrow.Author.Tests.{ltb-false, eqb-false}
use Rattle.floats.specs.Pattern.{field_of, significand_of, exponent_of}
use Rattle.floats.specs.Exp2.{exp2_of, pow_at, scaled, one28, minus126}
use Rattle.floats.specs.Promises.{steps_of}
use Rattle.floats.proofs.Patterns.{of_bits_is, value}
use Rattle.floats.proofs.Sums.{sub_mul}

-- ---- the cases of the definition
pub of_nan : nan ≡ exp2_of nan
unfolding exp2_of
of_nan = refl

module _ (x : Float) (N : is_nan x ≡ false) where
  past : exp2_of x ≡ cond (le one28 x) (inf false) (cond (lt x minus126) (fin false 0 (pos 0)) (pow_at (scaled x)))
  unfolding exp2_of
  past = ap (λ (t : Bool). cond t nan (cond (le one28 x) (inf false) (cond (lt x minus126) (fin false 0 (pos 0)) (pow_at (scaled x))))) N

  pub of_large : le one28 x ≡ true → exp2_of x ≡ inf false
  of_large h = past ∙ ap (λ (t : Bool). cond t (inf false) (cond (lt x minus126) (fin false 0 (pos 0)) (pow_at (scaled x)))) h

  below : le one28 x ≡ false → exp2_of x ≡ cond (lt x minus126) (fin false 0 (pos 0)) (pow_at (scaled x))
  below h = past ∙ ap (λ (t : Bool). cond t (inf false) (cond (lt x minus126) (fin false 0 (pos 0)) (pow_at (scaled x)))) h

  pub of_low : le one28 x ≡ false → lt x minus126 ≡ true → exp2_of x ≡ fin false 0 (pos 0)
  of_low h k = below h ∙ ap (λ (t : Bool). cond t (fin false 0 (pos 0)) (pow_at (scaled x))) k

  pub of_middle : le one28 x ≡ false → lt x minus126 ≡ false → exp2_of x ≡ pow_at (scaled x)
  of_middle h k = below h ∙ ap (λ (t : Bool). cond t (fin false 0 (pos 0)) (pow_at (scaled x))) k

-- ---- what the tests say of the value n / 2 ^ 149
or_l : (a b : Bool) → a || b ≡ false → a ≡ false
or_l true b h = h
or_l false b h = refl

or_r : (a b : Bool) → a || b ≡ false → b ≡ false
or_r true b h = absurd (true≢false h)
or_r false b h = h

and_true : (a : Bool) → a && true ≡ false → a ≡ false
and_true true h = h
and_true false h = refl

-- m * up e against k * down e, and n against k * 2 ^ 149
module _ (w n d k : ℕ) (D : 0 < d) (h : w * 2 ^ 149 ≡ n * d) where
  shift_lt : w < k * d → n < k * 2 ^ 149
  shift_lt l = lt_of_mul-lt-mul_right d (lt_of_le_of_lt (le_of_eq (sym h)) (lt_of_lt_of_le (mul-lt-mul_of_pos_right l (pow_pos 149)) (le_of_eq (mul_right_comm k d (2 ^ 149)))))

  shift_le : w ≤ k * d → n ≤ k * 2 ^ 149
  shift_le l = le_of_mul-le-mul_right (le_trans (le_of_eq (sym h)) (le_trans (mul-le-mul_right (2 ^ 149) l) (le_of_eq (mul_right_comm k d (2 ^ 149))))) D

pub under_128 : (x : Float) (n : ℕ) → HasValue x false n (2 ^ 149) → le one28 x ≡ false → n < 8388608 * 2 ^ 133
unfolding le
under_128 nan n v h = absurd v
under_128 (inf s) n v h = absurd v
under_128 (fin true m e) n v h = absurd (true≢false v.0)
under_128 (fin false m e) n v h =
    let a = 128 * down e in
    let b = m * up e * 1 in
    let x = ltb-false a b (or_l (ltb a b) (eqb a b && true) h) in
    let y = eqb-false a b (and_true (eqb a b) (or_r (ltb a b) (eqb a b && true) h)) in
    shift_lt (m * up e) n (down e) 128 (down_pos e) v.1 (lt_of_le_of_lt (le_of_eq (sym (mul-one (m * up e)))) (lt_of_le-ne x (λ (q : b ≡ a). y (sym q))))

pub above_126 : (x : Float) (n : ℕ) → HasValue x true n (2 ^ 149) → lt x minus126 ≡ false → n ≤ 8257536 * 2 ^ 133
unfolding lt
above_126 nan n v h = absurd v
above_126 (inf s) n v h = absurd v
above_126 (fin false m e) n v h = absurd (true≢false (sym v.0))
above_126 (fin true m e) n v h =
    shift_le (m * up e) n (down e) 126 (down_pos e) v.1 (le_trans (le_of_eq (sym (mul-one (m * up e)))) (ltb-false (126 * down e) (m * up e * 1) h))

pub is_finite : (x : Float) → is_nan x ≡ false → le one28 x ≡ false → lt x minus126 ≡ false → finite x ≡ true
unfolding is_nan le lt
is_finite nan a b c = absurd (true≢false a)
is_finite (inf true) a b c = absurd (true≢false c)
is_finite (inf false) a b c = absurd (true≢false b)
is_finite (fin s m e) a b c = refl

-- ---- `scaled` of the value
pub scaled_plus : (x : Float) (n : ℕ) → HasValue x false n (2 ^ 149) → scaled x ≡ (8388608 * 2 ^ 133 + n) / 2 ^ 133
unfolding scaled
scaled_plus nan n v = absurd v
scaled_plus (inf s) n v = absurd v
scaled_plus (fin true m e) n v = absurd (true≢false v.0)
scaled_plus (fin false m e) n v =
    div_same (8388608 * down e + m * up e * 65536) (down e) (8388608 * 2 ^ 133 + n) (2 ^ 133) (down_pos e) (pow_pos 133)
    (sum (8388608 * down e) (m * up e * 65536) (8388608 * 2 ^ 133) n (2 ^ 133) (down e) (mul_right_comm 8388608 (down e) (2 ^ 133)) (mul_assoc (m * up e) 65536 (2 ^ 133) ∙ v.1))
  where
    sum : (a b c d x y : ℕ) → a * x ≡ c * y → b * x ≡ d * y → (a + b) * x ≡ (c + d) * y
    sum a b c d x y p q = omega arith

pub scaled_minus : (x : Float) (n : ℕ) → HasValue x true n (2 ^ 149) → scaled x ≡ (8388608 * 2 ^ 133 - n) / 2 ^ 133
unfolding scaled
scaled_minus nan n v = absurd v
scaled_minus (inf s) n v = absurd v
scaled_minus (fin false m e) n v = absurd (true≢false (sym v.0))
scaled_minus (fin true m e) n v =
    div_same (8388608 * down e - m * up e * 65536) (down e) (8388608 * 2 ^ 133 - n) (2 ^ 133) (down_pos e) (pow_pos 133)
    (sub_mul (8388608 * down e) (m * up e * 65536) (2 ^ 133)
    ∙ ap (λ (z : ℕ). z - m * up e * 65536 * 2 ^ 133) (mul_right_comm 8388608 (down e) (2 ^ 133))
    ∙ ap (λ (z : ℕ). 8388608 * 2 ^ 133 * down e - z) (mul_assoc (m * up e) 65536 (2 ^ 133) ∙ v.1)
    ∙ sym (sub_mul (8388608 * 2 ^ 133) n (down e)))

-- ---- by the pattern
pub record Middle (b : ℕ) : Type 0 where
  pub most : significand_of b * 2 ^ exponent_of b ≤ 8388608 * 2 ^ 133
  pub low : 131072 ≤ steps_of b
  pub high : steps_of b < 16777216
  pub is : scaled (of_bits binary32 b) ≡ steps_of b

not_ones : (b : ℕ) → finite (of_bits binary32 b) ≡ true → field_of b < 255
unfolding of_fields
not_ones b h = elim (eq-or-lt_of_le (field b)) [
  | inl e ↦ absurd (true≢false (sym h ∙ ap finite (of_bits_is b ∙ ap (λ (x : ℕ). of_fields binary32 (leb 2147483648 b) x (b % 8388608)) e) ∙ go (eqb (b % 8388608) 0) (leb 2147483648 b)))
  | inr l ↦ l
]
  where
    field : (b : ℕ) → b % 2147483648 / 8388608 ≤ 255
    field b = omega arith

    go : (t s : Bool) → finite (cond t (inf s) nan) ≡ false
    go true s = refl
    go false s = refl

module _ (D n : ℕ) (P : 0 < D) where
  plus_low : 131072 ≤ (8388608 * D + n) / D
  plus_low = (le-div_iff_mul-le P).1 (omega arith)

  plus_high : n < 8388608 * D → (8388608 * D + n) / D < 16777216
  plus_high h = (div-lt_iff_lt-mul P).1 (omega arith)

  minus_low : n ≤ 8257536 * D → 131072 ≤ (8388608 * D - n) / D
  minus_low h = (le-div_iff_mul-le P).1 (omega arith)

  minus_high : (8388608 * D - n) / D < 16777216
  minus_high = (div-lt_iff_lt-mul P).1 (omega arith)

  minus_most : n ≤ 8257536 * D → n ≤ 8388608 * D
  minus_most h = omega arith

  plus_most : n < 8388608 * D → n ≤ 8388608 * D
  plus_most h = omega arith

pub middle : (b : ℕ) → is_nan (of_bits binary32 b) ≡ false → le one28 (of_bits binary32 b) ≡ false → lt (of_bits binary32 b) minus126 ≡ false → Middle b
unfolding steps_of
middle b N H L = go (leb 2147483648 b) refl
  where
    held : (s : Bool) → leb 2147483648 b ≡ s → HasValue (of_bits binary32 b) s (significand_of b * 2 ^ exponent_of b) (2 ^ 149)
    held s p = subst (λ (t : Bool). HasValue (of_bits binary32 b) t (significand_of b * 2 ^ exponent_of b) (2 ^ 149)) p (value b (not_ones b (is_finite (of_bits binary32 b) N H L)))

    go : (s : Bool) → leb 2147483648 b ≡ s → Middle b
    go true p =
        let k = significand_of b * 2 ^ exponent_of b in
        let v = held true p in
        let h : k ≤ 8257536 * 2 ^ 133 = above_126 (of_bits binary32 b) k v L in
        let e : (8388608 * 2 ^ 133 - k) / 2 ^ 133 ≡ steps_of b = sym (ap (λ (t : Bool). cond t ((8388608 * 2 ^ 133 - k) / 2 ^ 133) ((8388608 * 2 ^ 133 + k) / 2 ^ 133)) p) in
        record {
          most = minus_most (2 ^ 133) k (pow_pos 133) h;
          low = subst (λ (z : ℕ). 131072 ≤ z) e (minus_low (2 ^ 133) k (pow_pos 133) h);
          high = subst (λ (z : ℕ). z < 16777216) e (minus_high (2 ^ 133) k (pow_pos 133));
          is = scaled_minus (of_bits binary32 b) k v ∙ e;
        }
    go false p =
        let k = significand_of b * 2 ^ exponent_of b in
        let v = held false p in
        let h : k < 8388608 * 2 ^ 133 = under_128 (of_bits binary32 b) k v H in
        let e : (8388608 * 2 ^ 133 + k) / 2 ^ 133 ≡ steps_of b = sym (ap (λ (t : Bool). cond t ((8388608 * 2 ^ 133 - k) / 2 ^ 133) ((8388608 * 2 ^ 133 + k) / 2 ^ 133)) p) in
        record {
          most = plus_most (2 ^ 133) k (pow_pos 133) h;
          low = subst (λ (z : ℕ). 131072 ≤ z) e (plus_low (2 ^ 133) k (pow_pos 133));
          high = subst (λ (z : ℕ). z < 16777216) e (plus_high (2 ^ 133) k (pow_pos 133) h);
          is = scaled_plus (of_bits binary32 b) k v ∙ e;
        }
