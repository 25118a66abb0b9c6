-- A finite f32 is its own value, rounded (`round_own`), and stays as it is when a zero is added to it, unless it is -0 (`add_none`). Assumes nothing.
use mathlib.Core.Path.{◌≡◌, refl, sym, ap, ◌∙◌, subst}
use mathlib.Core.Logic.{inl, inr}
use mathlib.Core.Bool.{Bool, true, false, cond}
use Prim.Native.Nat.{ℕ, zero, suc, ◌+◌, ◌*◌, ◌%◌, ◌^◌, ◌<◌, ◌≤◌}
use native.Mathlib.Nat.{eq-or-lt_of_le, lt_of_lt_of_le, eq_of_mul-eq-mul_right, mul_right_comm, mul-one, zero-mul, add-zero, sub-zero, zero-lt-suc}
use native.Mathlib.Omega.{arith}
use lib.Dec.{T, leb, eqb}
use lib.Pow.{pow_mono, shl_lt}
use lib.Ieee.{Float, nan, inf, fin, binary32, up, down, round, sum, fits, of_fields, of_bits, to_bits}
use lib.Ieee.Bits.{of_bits-to_bits}
use lib.Ieee.Fits.{down_pos, round-fits}
use lib.Ieee.Exact.{HasValue, round_exact}
use borrow.Author.Tests.{le-ltb, lt-ltb}
use Rattle.floats.specs.F32.{◌⊕◌}
use Rattle.floats.specs.Pattern.{field_of, significand_of, exponent_of}
use Rattle.floats.proofs.Exact.{value_fixes}
use Rattle.floats.proofs.Patterns.{value, significand_lt, at_ones}
use Rattle.floats.proofs.Sums.{add_value}
use Rattle.floats.proofs.Values.{apart}

-- one value by two fractions
same_value : (x : Float) (s t : Bool) (a b c d : ℕ) → HasValue x s a c → HasValue x t b d → (s ≡ t) × (a * d ≡ b * c)
same_value nan s t a b c d v w = absurd v
same_value (inf r) s t a b c d v w = absurd v
same_value (fin r m e) s t a b c d v w = (
  sym v.0 ∙ w.0,
  eq_of_mul-eq-mul_right (down e) (down_pos e) (a * d) (b * c)
      (mul_right_comm a d (down e) ∙ ap (λ (z : ℕ). z * d) (sym v.1) ∙ mul_right_comm (m * up e) c d ∙ ap (λ (z : ℕ). z * c) w.1 ∙ mul_right_comm b (down e) c),
)

-- the pattern of a number has no field of ones
finite_field : (b : ℕ) (s : Bool) (a c : ℕ) → HasValue (of_bits binary32 b) s a c → field_of b < 255
unfolding of_fields
finite_field b s a c v = elim (eq-or-lt_of_le field) [
  | inl e ↦ absurd (none (leb 2147483648 b) (eqb (b % 8388608) 0) (subst (λ (x : Float). HasValue x s a c) (at_ones b (leb 2147483648 b) refl e) v))
  | inr l ↦ l
]
  where
    field : field_of b ≤ 255
    field = omega arith

    none : (r t : Bool) → HasValue (cond t (inf r) nan) s a c → ⊥
    none r true v = v
    none r false v = v

rounded : (b : ℕ) (s : Bool) (a c : ℕ) → 0 < c → HasValue (of_bits binary32 b) s a c → HasValue (round binary32 s a c) s a c
rounded b s a c C v =
    let h = finite_field b s a c v in
    round_exact binary32 s a c (significand_of b) (exponent_of b) C (significand_lt b) (lt_of_lt_of_le (shl_lt 24 (exponent_of b) (significand_lt b)) (pow_mono (high b h))) (same_value (of_bits binary32 b) s (leb 2147483648 b) a (significand_of b * 2 ^ exponent_of b) c (2 ^ 149) v (value b h)).1
  where
    high : (b : ℕ) → field_of b < 255 → 24 + exponent_of b ≤ 277
    high b h = omega arith

pub round_own : (x : Float) (s : Bool) (a c : ℕ) → 0 < c → T (fits binary32 x) → HasValue x s a c → round binary32 s a c ≡ x
round_own x s a c C F v =
    value_fixes binary32 (round binary32 s a c) x s a c C (round-fits binary32 s a c) F
    (rounded (to_bits binary32 x) s a c C (subst (λ (y : Float). HasValue y s a c) (sym (of_bits-to_bits binary32 x F)) v)) v

-- a zero over any denominator
none_over : (z : Float) (t : Bool) (c : ℕ) → HasValue z t 0 1 → HasValue z t 0 c
none_over nan t c v = v
none_over (inf r) t c v = v
none_over (fin r m e) t c v = (v.0, ap (λ (k : ℕ). k * c) (sym (mul-one (m * up e)) ∙ v.1 ∙ zero-mul (down e)) ∙ zero-mul c ∙ sym (zero-mul (down e)))

-- no size, and so no change but of -0
unchanged : (s t : Bool) (a c : ℕ) → (a ≡ 0 → s ≡ false) → sum binary32 s a t 0 c ≡ round binary32 s a c
unfolding sum
unchanged false false a c h = rw (add-zero a)
unchanged true true a c h = rw (add-zero a)
unchanged false true a c h = rw (le-ltb a 0 (omega arith), sub-zero a)
unchanged true false zero c h = apart (h refl)
unchanged true false (suc a) c h = rw (le-ltb (suc a) 0 (omega arith), lt-ltb 0 (suc a) (zero-lt-suc a), sub-zero (suc a))

pub add_none : (x z : Float) (s t : Bool) (a c : ℕ) → 0 < c → T (fits binary32 x) → HasValue x s a c → HasValue z t 0 1 → (a ≡ 0 → s ≡ false) → x ⊕ z ≡ x
add_none x z s t a c C F v w h = add_value binary32 x z s t a 0 c C v (none_over z t c w) ∙ unchanged s t a c h ∙ round_own x s a c C F v
