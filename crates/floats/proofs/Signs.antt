-- The magnitude and the sign of an `f32`, read off its bit pattern. Assumes nothing.
use mathlib.Core.Path.{◌≡◌, refl, sym, ◌∙◌, subst}
use mathlib.Core.Bool.{Bool, true, false, cond}
use Prim.Native.Nat.{ℕ, zero, suc, ◌+◌, ◌*◌, ◌/◌, ◌%◌, ◌<◌, ◌≤◌}
use native.Mathlib.Decide.{dec_le}
use native.Mathlib.Nat.{lt_of_not-le}
use native.Mathlib.Omega.{arith}
use lib.Dec.{T, leb, eqb}
use lib.Ieee.{Float, nan, inf, fin, binary32, odd, of_fields, of_bits, to_bits, nan_bits, is_nan, fits, ne}
use lib.Ieee.Bits.{of_bits-to_bits, to_bits-lt, nan_bits_is}
use borrow.Author.Tests.{lt-leb, le-leb}
use Rattle.floats.specs.F32.{0f, 1f}
use Rattle.floats.specs.Sign.{abs_of, sign_bit}
use Rattle.floats.proofs.Nan.{no_nan}
use Rattle.floats.proofs.Patterns.{of_bits_is, bits_no_nan}

abs_odd : (d : ℕ) (s : Bool) (q k l : ℕ) → abs_of (odd d s q k l) ≡ odd d false q k l
unfolding abs_of odd
abs_odd d s zero k l = refl
abs_odd d s (suc q) k l = refl

abs_fields : (s : Bool) (x t : ℕ) → abs_of (of_fields binary32 s x t) ≡ of_fields binary32 false x t
unfolding of_fields abs_of
abs_fields s zero t = abs_odd 24 s t 0 149
abs_fields s (suc x) t = go (eqb (suc x) 255) (eqb t 0)
  where
    go : (a b : Bool) → abs_of (cond a (cond b (inf s) nan) (odd 24 s (8388608 + t) x 149)) ≡ cond a (cond b (inf false) nan) (odd 24 false (8388608 + t) x 149)
    go true true = refl
    go true false = refl
    go false b = abs_odd 24 s (8388608 + t) x 149

under : (b : ℕ) → b % 2147483648 < 2147483648
under b = omega arith

high : (b : ℕ) → b % 2147483648 % 2147483648 ≡ b % 2147483648
high b = omega arith

low : (b : ℕ) → b % 2147483648 % 8388608 ≡ b % 8388608
low b = omega arith

-- dropping the sign's bit drops the sign
clear : (b : ℕ) → of_bits binary32 (b % 2147483648) ≡ abs_of (of_bits binary32 b)
clear b = rw (of_bits_is b, of_bits_is (b % 2147483648), lt-leb 2147483648 (b % 2147483648) (under b), high b, low b, abs_fields)

pub abs_bits : (x : Float) → T (fits binary32 x) → of_bits binary32 (to_bits binary32 x % 2147483648) ≡ abs_of x
abs_bits x h = rw (clear, of_bits-to_bits binary32 x h)

is_nan_abs : (x : Float) → is_nan (abs_of x) ≡ is_nan x
unfolding abs_of is_nan
is_nan_abs nan = refl
is_nan_abs (inf s) = refl
is_nan_abs (fin s m e) = refl

pub abs_no_nan : (x : Float) → T (fits binary32 x) → ne x x ≡ false → nan_bits binary32 (to_bits binary32 x % 2147483648) ≡ false
abs_no_nan x h e = rw (nan_bits_is, abs_bits x h, is_nan_abs, no_nan x e)

-- the sign, as a truth value; false at `nan`
pub negative : Float → Bool
negative nan = false
negative (inf s) = s
negative (fin s m e) = s

negative_odd : (d : ℕ) (s : Bool) (q k l : ℕ) → negative (odd d s q k l) ≡ s
unfolding negative odd
negative_odd d s zero k l = refl
negative_odd d s (suc q) k l = refl

negative_inf : (s : Bool) → negative (inf s) ≡ s
unfolding negative
negative_inf s = refl

nan_is : is_nan nan ≡ false → ⊥
unfolding is_nan
nan_is e = subst T e tt

negative_fields : (s : Bool) (x t : ℕ) → is_nan (of_fields binary32 s x t) ≡ false → negative (of_fields binary32 s x t) ≡ s
unfolding of_fields
negative_fields s zero t n = negative_odd 24 s t 0 149
negative_fields s (suc x) t n = go (eqb (suc x) 255) (eqb t 0) n
  where
    go : (a b : Bool) → is_nan (cond a (cond b (inf s) nan) (odd 24 s (8388608 + t) x 149)) ≡ false → negative (cond a (cond b (inf s) nan) (odd 24 s (8388608 + t) x 149)) ≡ s
    go true true n = negative_inf s
    go true false n = absurd (nan_is n)
    go false b n = negative_odd 24 s (8388608 + t) x 149

pub negative_bits : (x : Float) → T (fits binary32 x) → is_nan x ≡ false → leb 2147483648 (to_bits binary32 x) ≡ negative x
negative_bits x h n = let b = to_bits binary32 x in let e = sym (of_bits_is b) ∙ of_bits-to_bits binary32 x h in
    rw e at (sym (negative_fields (leb 2147483648 b) (b % 2147483648 / 8388608) (b % 8388608) (rw e n)))

pub sign_is : (x : Float) → is_nan x ≡ false → sign_bit x ≡ cond (negative x) 1f 0f
unfolding sign_bit negative
sign_is nan e = absurd (nan_is e)
sign_is (inf s) e = refl
sign_is (fin s m e) _ = refl

-- the sign's bit times the pattern of 1
pub bit_le : (b : ℕ) → b < 4294967296 → b / 2147483648 ≤ 1
bit_le b h = omega arith

pub bit_no_nan : (b : ℕ) → b < 4294967296 → nan_bits binary32 (b / 2147483648 * 1065353216) ≡ false
bit_no_nan b h = bits_no_nan (b / 2147483648 * 1065353216) (omega (arith, bit_le b h))

at_bit : (b : ℕ) → b < 4294967296 → of_bits binary32 (b / 2147483648 * 1065353216) ≡ cond (leb 2147483648 b) 1f 0f
at_bit b h = elim (dec_le 2147483648 b) [
  | yes g ↦ rw (one b h g, le-leb 2147483648 b g)
  | no g ↦ rw (none b (lt_of_not-le g), lt-leb 2147483648 b (lt_of_not-le g))
]
  where
    one : (b : ℕ) → b < 4294967296 → 2147483648 ≤ b → b / 2147483648 * 1065353216 ≡ 1065353216
    one b h g = omega arith

    none : (b : ℕ) → b < 2147483648 → b / 2147483648 * 1065353216 ≡ 0
    none b g = omega arith

pub sign_by_bit : (x : Float) → T (fits binary32 x) → ne x x ≡ false → of_bits binary32 (to_bits binary32 x / 2147483648 * 1065353216) ≡ sign_bit x
sign_by_bit x h e = rw (sign_is x (no_nan x e), ← negative_bits x h (no_nan x e)) (at_bit (to_bits binary32 x) (to_bits-lt binary32 x h))
