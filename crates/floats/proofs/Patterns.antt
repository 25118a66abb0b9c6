-- f32 bit patterns: a finite one is significand * 2 ^ exponent in units of 2 ^ -149 (`value`), one whose field is all ones an infinity or a NaN (`at_ones`),
-- and the pattern k * 2 ^ 23 + q stands for q * 2 ^ k units, where q has 24 digits (`made`). Assumes nothing.
use mathlib.Core.Path.{◌≡◌, refl, sym, ap, ◌∙◌, subst}
use mathlib.Core.Bool.{Bool, true, false, cond, true≢false}
use Prim.Native.Nat.{ℕ, zero, suc, ◌+◌, ◌-◌, ◌*◌, ◌/◌, ◌%◌, ◌^◌, ◌≤◌, ◌<◌}
use native.Mathlib.Nat.{le_of_suc-le-suc}
use native.Mathlib.Omega.{arith}
use lib.Dec.{T, leb, eqb, eqb→eq}
use lib.Ieee.{Float, nan, inf, binary32, binary64, odd, of_fields, of_bits, is_nan, nan_bits}
use lib.Ieee.Bits.{nan_bits_above}
use lib.Ieee.Exact.{HasValue, odd_sign}
use borrow.Author.Tests.{lt-leb, ne_eqb, le-ltb}
use Rattle.floats.specs.Pattern.{field_of, significand_of, exponent_of}

pub of_bits_is : (b : ℕ) → of_bits binary32 b ≡ of_fields binary32 (leb 2147483648 b) (field_of b) (b % 8388608)
unfolding of_bits
of_bits_is b = refl

under_ones : (s : Bool) (t x : ℕ) → x < 254 → of_fields binary32 s (suc x) t ≡ odd 24 s (8388608 + t) x 149
unfolding of_fields
under_ones s t x h = ap (λ (c : Bool). cond c (cond (eqb t 0) (inf s) nan) (odd 24 s (8388608 + t) x 149)) (ne_eqb (suc x) 255 (differ x h))
  where
    differ : (x : ℕ) → x < 254 → suc x ≡ 255 → ⊥
    differ x h e = omega arith

at_field : (s : Bool) (t f : ℕ) → f < 255 → of_fields binary32 s f t ≡ odd 24 s (cond (eqb f 0) t (8388608 + t)) (f - 1) 149
at_field s t zero h = unfold of_fields in refl
at_field s t (suc x) h =
    under_ones s t x (le_of_suc-le-suc h)
    ∙ ap (λ (y : ℕ). odd 24 s (8388608 + t) y 149) (pred x)
    ∙ ap (λ (c : Bool). odd 24 s (cond c t (8388608 + t)) (suc x - 1) 149) (sym (ne_eqb (suc x) 0 (nonzero x)))
  where
    pred : (x : ℕ) → x ≡ suc x - 1
    pred x = omega arith

    nonzero : (x : ℕ) → suc x ≡ 0 → ⊥
    nonzero x e = omega arith

-- a pattern whose field is not all ones
pub finite_is : (b : ℕ) → field_of b < 255 → of_bits binary32 b ≡ odd 24 (leb 2147483648 b) (significand_of b) (exponent_of b) 149
finite_is b h = of_bits_is b ∙ at_field (leb 2147483648 b) (b % 8388608) (field_of b) h

-- its value, in units of 2 ^ -149
pub value : (b : ℕ) → field_of b < 255 → HasValue (of_bits binary32 b) (leb 2147483648 b) (significand_of b * 2 ^ exponent_of b) (2 ^ 149)
value b h =
    subst (λ (x : Float). HasValue x (leb 2147483648 b) (significand_of b * 2 ^ exponent_of b) (2 ^ 149)) (sym (finite_is b h))
    (odd_sign 24 (leb 2147483648 b) (significand_of b) (exponent_of b) 149)

-- the significand
pub significand_lt : (b : ℕ) → significand_of b < 16777216
significand_lt b = go (eqb (field_of b) 0)
  where
    go : (t : Bool) → cond t (b % 8388608) (8388608 + b % 8388608) < 16777216
    go true = omega arith
    go false = omega arith

pub significand_pos : (b : ℕ) → 0 < b % 2147483648 → 0 < significand_of b
significand_pos b h = go (eqb (field_of b) 0) (λ (t : T (eqb (field_of b) 0)). eqb→eq (field_of b) 0 t)
  where
    go : (t : Bool) → (T t → field_of b ≡ 0) → 0 < cond t (b % 8388608) (8388608 + b % 8388608)
    go true x = low b h (x tt)
      where
        low : (b : ℕ) → 0 < b % 2147483648 → b % 2147483648 / 8388608 ≡ 0 → 0 < b % 8388608
        low b h e = omega arith
    go false x = omega arith

pub significand_ge : (b : ℕ) → 0 < exponent_of b → 8388608 ≤ significand_of b
significand_ge b h = go (eqb (field_of b) 0) (λ (t : T (eqb (field_of b) 0)). eqb→eq (field_of b) 0 t)
  where
    go : (t : Bool) → (T t → field_of b ≡ 0) → 8388608 ≤ cond t (b % 8388608) (8388608 + b % 8388608)
    go true x = absurd (no (field_of b) h (x tt))
      where
        no : (f : ℕ) → 0 < f - 1 → f ≡ 0 → ⊥
        no f a e = omega arith
    go false x = omega arith

-- where the pattern's field is all ones, it is read by its sign and its digits
pub at_ones : (b : ℕ) (s : Bool) → leb 2147483648 b ≡ s → field_of b ≡ 255 → of_bits binary32 b ≡ of_fields binary32 s 255 (b % 8388608)
at_ones b s p f = of_bits_is b ∙ ap (λ (t : Bool). of_fields binary32 t (field_of b) (b % 8388608)) p ∙ ap (λ (x : ℕ). of_fields binary32 s x (b % 8388608)) f

pub infinite : (b : ℕ) → field_of b ≡ 255 → is_nan (of_bits binary32 b) ≡ false → of_bits binary32 b ≡ inf (leb 2147483648 b)
unfolding of_fields is_nan
infinite b f n = let e = at_ones b (leb 2147483648 b) refl f in e ∙ go (eqb (b % 8388608) 0) (subst (λ (x : Float). is_nan x ≡ false) e n)
  where
    go : (t : Bool) → is_nan (cond t (inf (leb 2147483648 b)) nan) ≡ false → cond t (inf (leb 2147483648 b)) nan ≡ inf (leb 2147483648 b)
    go true n = refl
    go false n = absurd (true≢false n)

-- ---- patterns that are put together
at_pattern : (k t : ℕ) → k < 254 → t < 8388608 → of_bits binary32 (suc k * 8388608 + t) ≡ odd 24 false (8388608 + t) k 149
at_pattern k t h g =
    of_bits_is (suc k * 8388608 + t)
    ∙ ap (λ (c : Bool). of_fields binary32 c (field_of (suc k * 8388608 + t)) ((suc k * 8388608 + t) % 8388608)) (lt-leb 2147483648 (suc k * 8388608 + t) (small k t h g))
    ∙ ap (λ (x : ℕ). of_fields binary32 false x ((suc k * 8388608 + t) % 8388608)) (field k t h g)
    ∙ ap (λ (x : ℕ). of_fields binary32 false (suc k) x) (rest k t g)
    ∙ under_ones false t k h
  where
    small : (k t : ℕ) → k < 254 → t < 8388608 → suc k * 8388608 + t < 2147483648
    small k t h g = omega arith

    field : (k t : ℕ) → k < 254 → t < 8388608 → (suc k * 8388608 + t) % 2147483648 / 8388608 ≡ suc k
    field k t h g = omega arith

    rest : (k t : ℕ) → t < 8388608 → (suc k * 8388608 + t) % 8388608 ≡ t
    rest k t g = omega arith

-- q with 24 digits
pub made : (k q : ℕ) → k < 254 → 8388608 ≤ q → q < 16777216 → of_bits binary32 (k * 8388608 + q) ≡ odd 24 false q k 149
made k q h lo hi =
    ap (λ (x : ℕ). of_bits binary32 x) (carried k q lo)
    ∙ at_pattern k (q - 8388608) h (rest q hi)
    ∙ ap (λ (x : ℕ). odd 24 false x k 149) (whole q lo)
  where
    carried : (k q : ℕ) → 8388608 ≤ q → k * 8388608 + q ≡ suc k * 8388608 + (q - 8388608)
    carried k q lo = omega arith

    rest : (q : ℕ) → q < 16777216 → q - 8388608 < 8388608
    rest q hi = omega arith

    whole : (q : ℕ) → 8388608 ≤ q → 8388608 + (q - 8388608) ≡ q
    whole q lo = omega arith

-- what `from_bits` asks
pub bits_no_nan : (b : ℕ) → b < 2139095040 → nan_bits binary32 b ≡ false
bits_no_nan b h = nan_bits_above binary32 b ∙ le-ltb 2139095040 (b % 2147483648) (under b h)
  where
    under : (b : ℕ) → b < 2139095040 → b % 2147483648 ≤ 2139095040
    under b h = omega arith

-- the same of an f64's pattern
pub wide_no_nan : (b : ℕ) → b < 9218868437227405312 → nan_bits binary64 b ≡ false
wide_no_nan b h = nan_bits_above binary64 b ∙ le-ltb 9218868437227405312 (b % 9223372036854775808) (under b h)
  where
    under : (b : ℕ) → b < 9218868437227405312 → b % 9223372036854775808 ≤ 9218868437227405312
    under b h = omega arith
