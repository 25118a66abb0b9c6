-- `sqrt_of` at a value and at a bit pattern, case by case; of a positive value it is the nearest root by squares (`is_root`). Assumes nothing.
use mathlib.Core.Path.{◌≡◌, refl, sym, ap, ◌∙◌, subst}
use mathlib.Core.Logic.{inl, inr}
use mathlib.Core.Bool.{Bool, true, false, cond, true≢false}
use Prim.Native.Nat.{ℕ, zero, suc, ◌+◌, ◌-◌, ◌*◌, ◌/◌, ◌%◌, ◌^◌, ◌≤◌, ◌<◌}
use native.Mathlib.Nat.{mul-div_cancel, mul-pos, zero-mul, eq-or-lt_of_le}
use native.Mathlib.Omega.{arith}
use lib.Dec.{eqb}
use lib.Pow.{pow_pos}
use lib.IntN.{ℤ}
use lib.Ieee.{Float, nan, inf, fin, binary32, up, down, of_fields, of_bits}
use lib.Ieee.Fits.{down_pos}
use lib.Ieee.Exact.{HasValue}
use borrow.Author.Tests.{lt-leb, le-leb, eq-eqb, ne_eqb}
use Rattle.floats.specs.Pattern.{field_of, significand_of, exponent_of}
use Rattle.floats.specs.Sqrt.{sqrt_of, root_units, IsRoot}
use Rattle.floats.proofs.Patterns.{value, significand_pos, at_ones}
use Rattle.floats.proofs.RootSquares.{root_squares}

-- ---- by the value: n / 2 ^ 149, with n above 0
none : (n : ℕ) (e : ℤ) (a b : ℕ) → 0 * a * b ≡ n * down e → 0 < n → ⊥
none n e a b h p = clash (n * down e) (sym h ∙ ap (λ (x : ℕ). x * b) (zero-mul a) ∙ zero-mul b) (mul-pos p (down_pos e))
  where
    clash : (w : ℕ) → w ≡ 0 → 0 < w → ⊥
    clash w x y = omega arith

pub of_positive : (x : Float) (n : ℕ) → HasValue x false n (2 ^ 149) → 0 < n → sqrt_of x ≡ root_units n
unfolding sqrt_of
of_positive nan n h p = absurd h
of_positive (inf s) n h p = absurd h
of_positive (fin true m e) n h p = absurd (true≢false h.0)
of_positive (fin false zero e) n h p = absurd (none n e (up e) (2 ^ 149) h.1 p)
of_positive (fin false (suc m) e) n h p = ap root_units (ap (λ (w : ℕ). w / down e) h.1 ∙ mul-div_cancel n (down_pos e))

pub is_root : (x : Float) (n : ℕ) → 0 < n → HasValue x false n (2 ^ 149) → IsRoot n (sqrt_of x)
is_root x n p h = let s = root_squares n p in record { q = _; k = _; squares = s.0; is = of_positive x n h p ∙ s.1 }

pub of_negative : (x : Float) (n : ℕ) → HasValue x true n (2 ^ 149) → 0 < n → sqrt_of x ≡ nan
unfolding sqrt_of
of_negative nan n h p = absurd h
of_negative (inf s) n h p = absurd h
of_negative (fin false m e) n h p = absurd (true≢false (sym h.0))
of_negative (fin true zero e) n h p = absurd (none n e (up e) (2 ^ 149) h.1 p)
of_negative (fin true (suc m) e) n h p = refl

-- ---- by the bit pattern
pub of_nan : nan ≡ sqrt_of nan
unfolding sqrt_of
of_nan = refl

pub of_zero : of_bits binary32 0 ≡ sqrt_of (of_bits binary32 0)
unfolding sqrt_of of_bits
of_zero = refl

pub of_minus_zero : of_bits binary32 2147483648 ≡ sqrt_of (of_bits binary32 2147483648)
unfolding sqrt_of of_bits
of_minus_zero = refl

-- the field of an infinity or a NaN
ones_plus : (t : ℕ) → of_fields binary32 false 255 t ≡ sqrt_of (of_fields binary32 false 255 t)
unfolding of_fields sqrt_of
ones_plus t = go (eqb t 0)
  where
    go : (b : Bool) → cond b (inf false) nan ≡ sqrt_of (cond b (inf false) nan)
    go true = refl
    go false = refl

ones_minus : (t : ℕ) → sqrt_of (of_fields binary32 true 255 t) ≡ nan
unfolding of_fields sqrt_of
ones_minus t = go (eqb t 0)
  where
    go : (b : Bool) → sqrt_of (cond b (inf true) nan) ≡ nan
    go true = refl
    go false = refl

pub of_infinity : (b : ℕ) → 2139095040 ≤ b → b < 2147483648 → of_bits binary32 b ≡ sqrt_of (of_bits binary32 b)
of_infinity b lo hi = subst (λ (x : Float). x ≡ sqrt_of x) (sym (at_ones b false (lt-leb 2147483648 b hi) (field b lo hi))) (ones_plus (b % 8388608))
  where
    field : (b : ℕ) → 2139095040 ≤ b → b < 2147483648 → b % 2147483648 / 8388608 ≡ 255
    field b lo hi = omega arith

pub of_sign : (b : ℕ) → 2147483648 < b → b < 4294967296 → sqrt_of (of_bits binary32 b) ≡ nan
of_sign b lo hi = elim (eq-or-lt_of_le (field b)) [
  | inl e ↦ ap sqrt_of (at_ones b true (le-leb 2147483648 b (less b lo)) e) ∙ ones_minus (b % 8388608)
  | inr l ↦
      of_negative (of_bits binary32 b) (significand_of b * 2 ^ exponent_of b) (subst (λ (s : Bool). HasValue (of_bits binary32 b) s (significand_of b * 2 ^ exponent_of b) (2 ^ 149)) (le-leb 2147483648 b (less b lo)) (value b l))
      (mul-pos (significand_pos b (some b lo hi)) (pow_pos (exponent_of b)))
]
  where
    field : (b : ℕ) → b % 2147483648 / 8388608 ≤ 255
    field b = omega arith

    less : (b : ℕ) → 2147483648 < b → 2147483648 ≤ b
    less b h = omega arith

    some : (b : ℕ) → 2147483648 < b → b < 4294967296 → 0 < b % 2147483648
    some b lo hi = omega arith

of_plus : (b : ℕ) → 0 < b → b < 2139095040 → sqrt_of (of_bits binary32 b) ≡ root_units (significand_of b * 2 ^ exponent_of b)
of_plus b lo hi =
    of_positive (of_bits binary32 b) (significand_of b * 2 ^ exponent_of b)
    (subst (λ (s : Bool). HasValue (of_bits binary32 b) s (significand_of b * 2 ^ exponent_of b) (2 ^ 149)) (lt-leb 2147483648 b (under b hi)) (value b (field b hi)))
    (mul-pos (significand_pos b (some b lo hi)) (pow_pos (exponent_of b)))
  where
    under : (b : ℕ) → b < 2139095040 → b < 2147483648
    under b h = omega arith

    field : (b : ℕ) → b < 2139095040 → b % 2147483648 / 8388608 < 255
    field b h = omega arith

    some : (b : ℕ) → 0 < b → b < 2139095040 → 0 < b % 2147483648
    some b lo hi = omega arith

pub of_subnormal : (b : ℕ) → 0 < b → b < 8388608 → sqrt_of (of_bits binary32 b) ≡ root_units b
of_subnormal b lo hi = of_plus b lo (omega arith) ∙ ap root_units (rw (eq-eqb (field_of b) 0 (omega arith)) (size b hi))
  where
    size : (b : ℕ) → b < 8388608 → b % 8388608 * 2 ^ exponent_of b ≡ b
    size b h = rw (place b h) (omega arith)
      where
        place : (b : ℕ) → b < 8388608 → exponent_of b ≡ 0
        place b h = omega arith

pub of_normal : (b : ℕ) → 8388608 ≤ b → b < 2139095040 → sqrt_of (of_bits binary32 b) ≡ root_units ((8388608 + b % 8388608) * 2 ^ (b / 8388608 - 1))
of_normal b lo hi = of_plus b (omega arith) hi ∙ ap root_units (rw (ne_eqb (field_of b) 0 (some b lo hi), place b hi))
  where
    some : (b : ℕ) → 8388608 ≤ b → b < 2139095040 → field_of b ≡ 0 → ⊥
    some b lo hi e = omega arith

    place : (b : ℕ) → b < 2139095040 → exponent_of b ≡ b / 8388608 - 1
    place b hi = omega arith
