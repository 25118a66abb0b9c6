-- Casts of a float to a whole number, by its bit pattern. Assumes nothing.
use mathlib.Core.Path.{◌≡◌, refl, sym, ap, ◌∙◌, subst}
use mathlib.Core.Logic.{inl, inr}
use mathlib.Core.Bool.{Bool, false, cond}
use Prim.Native.Nat.{ℕ, zero, suc, ◌+◌, ◌-◌, ◌*◌, ◌/◌, ◌%◌, ◌^◌, ◌<◌, ◌≤◌, min}
use native.Mathlib.Decide.{dec_le}
use native.Mathlib.Nat.{eq-or-lt_of_le, le_trans, le_of_eq, le_of_lt, lt_of_lt_of_le, lt_of_le_of_lt, lt_of_not-le, mul-one, mul-zero, zero-mul, zero-div, div-eq_of_lt, mul-le-mul_left, div-lt_iff_lt-mul, le-div_iff_mul-le, mul-le-mul, mul_assoc}
use native.Mathlib.Omega.{arith}
use lib.IntN.{pos, neg_ℤ}
use lib.Dec.{leb}
use lib.Pow.{pow-add, pow_pos, pow_mono, shl_lt}
use lib.Ieee.{Float, nan, inf, fin, binary32, up, down, of_bits, is_nan, to_unsigned, to_signed}
use lib.Ieee.Fits.{down_pos}
use lib.Ieee.Exact.{HasValue}
use lib.Ieee.Nearest.{div_same}
use borrow.Author.Tests.{lt-leb, le-leb, ne_eqb}
use Rattle.floats.specs.Casts.{as_word, cast_word}
use Rattle.floats.specs.Pattern.{field_of, significand_of, exponent_of}
use Rattle.floats.proofs.Patterns.{value, significand_lt, significand_ge, infinite}

-- ---- the whole part of the f32 with the pattern b
abbrev pub whole_of : ℕ → ℕ
whole_of b = significand_of b * 2 ^ exponent_of b / 2 ^ 149

-- over any number, since `omega` takes no 2 ^ 149
none : (z : ℕ) → z < 1 → 0 ≡ z
none z h = omega arith

least : (z k : ℕ) → z ≤ k → z ≡ min z k
least z k h = omega arith

most : (z k : ℕ) → k ≤ z → k ≡ min z k
most z k h = omega arith

-- below 2 ^ k, and 2 ^ k or more, by the exponent
whole_lt : (b k : ℕ) → exponent_of b ≤ k + 125 → whole_of b < 2 ^ k
whole_lt b k h = (div-lt_iff_lt-mul (pow_pos 149)).1 (lt_of_lt_of_le (shl_lt 24 (exponent_of b) (significand_lt b)) (le_trans (pow_mono (up (exponent_of b) k h)) (le_of_eq (pow-add 2 k 149))))
  where
    up : (e k : ℕ) → e ≤ k + 125 → 24 + e ≤ k + 149
    up e k h = omega arith

whole_ge : (b k : ℕ) → k + 126 ≤ exponent_of b → 2 ^ k ≤ whole_of b
whole_ge b k h =
    (le-div_iff_mul-le (pow_pos 149)).1
    (le_trans (le_of_eq (sym (pow-add 2 k 149))) (le_trans (pow_mono (up (exponent_of b) k h)) (le_trans (le_of_eq (pow-add 2 23 (exponent_of b))) (mul-le-mul (significand_ge b (omega arith)) (le_of_eq refl)))))
  where
    up : (e k : ℕ) → k + 126 ≤ e → k + 149 ≤ 23 + e
    up e k h = omega arith

below_one : (b : ℕ) → b < 1602224128 → b / 8388608 < 127 → 0 ≡ whole_of b
below_one b B h = none (whole_of b) (whole_lt b 0 (omega arith))

-- from 1 on: the significand p places up and s places down
moved : (b p s : ℕ) → b < 1602224128 → 127 ≤ b / 8388608 → p + 149 ≡ exponent_of b + s → (b % 8388608 + 8388608) * 2 ^ p / 2 ^ s ≡ whole_of b
moved b p s B h places =
    let e : significand_of b ≡ b % 8388608 + 8388608 = rw (ne_eqb (field_of b) 0 (some b B h)) (omega arith) in
    div_same ((b % 8388608 + 8388608) * 2 ^ p) (2 ^ s) (significand_of b * 2 ^ exponent_of b) (2 ^ 149) (pow_pos s) (pow_pos 149) (rw e (powers (b % 8388608 + 8388608)))
  where
    some : (b : ℕ) → b < 1602224128 → 127 ≤ b / 8388608 → field_of b ≡ 0 → ⊥
    some b B h e = omega arith

    powers : (m : ℕ) → m * 2 ^ p * 2 ^ 149 ≡ m * 2 ^ exponent_of b * 2 ^ s
    powers m = mul_assoc m (2 ^ p) (2 ^ 149) ∙ ap (λ (z : ℕ). m * z) (sym (pow-add 2 p 149) ∙ ap (λ (z : ℕ). 2 ^ z) places ∙ pow-add 2 (exponent_of b) s) ∙ sym (mul_assoc m (2 ^ exponent_of b) (2 ^ s))

taken_down : (b : ℕ) → b < 1602224128 → 127 ≤ b / 8388608 → (b % 8388608 + 8388608) * 1099511627776 / 2 ^ ((190 - b / 8388608) % 64) ≡ whole_of b
taken_down b B h = ap (λ (s : ℕ). (b % 8388608 + 8388608) * 1099511627776 / 2 ^ s) (shift b h) ∙ moved b 40 (190 - b / 8388608) B h (places b B h)
  where
    shift : (b : ℕ) → 127 ≤ b / 8388608 → (190 - b / 8388608) % 64 ≡ 190 - b / 8388608
    shift b h = omega arith

    places : (b : ℕ) → b < 1602224128 → 127 ≤ b / 8388608 → 189 ≡ exponent_of b + (190 - b / 8388608)
    places b B h = omega arith

pub short_part_is : (b : ℕ) → b < 1325400064 → (b % 8388608 + 8388608) * 549755813888 / 2 ^ min 63 (189 - b / 8388608) ≡ whole_of b
short_part_is b B = elim (dec_le 127 (b / 8388608)) [
  | yes h ↦ ap (λ (s : ℕ). (b % 8388608 + 8388608) * 549755813888 / 2 ^ s) (all h) ∙ moved b 39 (189 - b / 8388608) (omega arith) h (places h)
  | no g ↦ ap (λ (s : ℕ). (b % 8388608 + 8388608) * 549755813888 / 2 ^ s) (out (lt_of_not-le g)) ∙ div-eq_of_lt (digits b) ∙ below_one b (omega arith) (lt_of_not-le g)
]
  where
    all : 127 ≤ b / 8388608 → min 63 (189 - b / 8388608) ≡ 189 - b / 8388608
    all h = omega arith

    out : b / 8388608 < 127 → min 63 (189 - b / 8388608) ≡ 63
    out h = omega arith

    places : 127 ≤ b / 8388608 → 188 ≡ exponent_of b + (189 - b / 8388608)
    places h = omega arith

    digits : (b : ℕ) → (b % 8388608 + 8388608) * 549755813888 < 2 ^ 63
    digits b = omega arith

-- the program's form: below 1 the digits are multiplied by 0
module _ (b : ℕ) (B : b < 1602224128) where
  pub digits_lt : (b % 8388608 + 8388608) * ((b / 8388608 + 129) / 256) < 16777216
  digits_lt = lt_of_le_of_lt (mul-le-mul_left (b % 8388608 + 8388608) one) (omega arith)
    where
      one : (b / 8388608 + 129) / 256 ≤ 1
      one = omega arith

  pub whole_part_is : (b % 8388608 + 8388608) * ((b / 8388608 + 129) / 256) * 1099511627776 / 2 ^ ((190 - b / 8388608) % 64) ≡ whole_of b
  whole_part_is = elim (dec_le 127 (b / 8388608)) [
    | yes h ↦ rw (one h, mul-one) (taken_down b B h)
    | no g ↦ rw (none_of (lt_of_not-le g), mul-zero, zero-mul, zero-div) (below_one b B (lt_of_not-le g))
  ]
    where
      one : 127 ≤ b / 8388608 → (b / 8388608 + 129) / 256 ≡ 1
      one h = omega arith

      none_of : b / 8388608 < 127 → (b / 8388608 + 129) / 256 ≡ 0
      none_of h = omega arith

-- ---- by the value
cut : (x : Float) (s : Bool) (n : ℕ) → HasValue x s n (2 ^ 149) → (to_unsigned 64 x ≡ cond s 0 (min (n / 2 ^ 149) (2 ^ 64 - 1))) × (to_signed 31 x ≡ cond s (neg_ℤ (pos (min (n / 2 ^ 149) (2 ^ 31)))) (pos (min (n / 2 ^ 149) (2 ^ 31 - 1))))
unfolding to_unsigned to_signed
cut nan s n v = absurd v
cut (inf t) s n v = absurd v
cut (fin t m e) s n v = rw (v.0, div_same (m * up e) (down e) n (2 ^ 149) (down_pos e) (pow_pos 149) v.1) (refl, refl)

back_at : (r : ℕ) → as_word (neg_ℤ (pos r)) ≡ (2 ^ 32 - r) % 2 ^ 32
unfolding as_word
back_at zero = refl
back_at (suc r) = omega arith

pub word_of_nan : 0 ≡ cast_word nan
unfolding cast_word as_word to_signed
word_of_nan = refl

pub unsigned_of_nan : 0 ≡ to_unsigned 64 nan
unfolding to_unsigned
unsigned_of_nan = refl

-- ---- by the pattern
-- a size from 2 ^ 31 on, infinity's too, is cut to 2 ^ 31, whose pattern is 1325400064
clamped : (b : ℕ) → whole_of (min (b % 2147483648) 1325400064) ≡ min (whole_of b) (2 ^ 31)
clamped b = elim (dec_le 1325400064 (b % 2147483648)) [
  | yes h ↦ ap whole_of (top h) ∙ most (whole_of b) (2 ^ 31) (whole_ge b 31 (omega arith))
  | no g ↦ let h = lt_of_not-le g in ap whole_of (under h) ∙ size ∙ least (whole_of b) (2 ^ 31) (le_of_lt (whole_lt b 31 (omega arith)))
]
  where
    top : 1325400064 ≤ b % 2147483648 → min (b % 2147483648) 1325400064 ≡ 1325400064
    top h = omega arith

    under : b % 2147483648 < 1325400064 → min (b % 2147483648) 1325400064 ≡ b % 2147483648
    under h = omega arith

    field : field_of (b % 2147483648) ≡ field_of b
    field = omega arith

    rest : b % 2147483648 % 8388608 ≡ b % 8388608
    rest = omega arith

    size : whole_of (b % 2147483648) ≡ whole_of b
    size = rw (field, rest)

module _ (b : ℕ) (B : b < 4294967296) (N : is_nan (of_bits binary32 b) ≡ false) where
  -- finite, or an infinity
  kinds : (P : Float → Type 0) → (field_of b < 255 → HasValue (of_bits binary32 b) (leb 2147483648 b) (significand_of b * 2 ^ exponent_of b) (2 ^ 149) → P (of_bits binary32 b)) → (field_of b ≡ 255 → P (inf (leb 2147483648 b))) → P (of_bits binary32 b)
  kinds P f g = elim (eq-or-lt_of_le field) [ inl e ↦ subst P (sym (infinite b e N)) (g e) | inr l ↦ f l (value b l) ]
    where
      field : field_of b ≤ 255
      field = omega arith

  word_up : b < 2147483648 → min (whole_of (min (b % 2147483648) 1325400064)) 2147483647 ≡ cast_word (of_bits binary32 b)
  unfolding cast_word as_word to_signed
  word_up h = kinds (λ (x : Float). min (whole_of (min (b % 2147483648) 1325400064)) 2147483647 ≡ cast_word x)
      (λ l v. rw ((cut (of_bits binary32 b) _ _ v).1, lt-leb 2147483648 b h, clamped b) (closer (whole_of b)))
      (λ e. rw (lt-leb 2147483648 b h, clamped b) (top (whole_of b) (whole_ge b 31 (omega arith))))
    where
      closer : (z : ℕ) → min (min z (2 ^ 31)) 2147483647 ≡ min z (2 ^ 31 - 1)
      closer z = omega arith

      top : (z : ℕ) → 2 ^ 31 ≤ z → min (min z (2 ^ 31)) 2147483647 ≡ 2147483647
      top z h = omega arith

  word_down : 2147483648 ≤ b → (4294967296 - whole_of (min (b % 2147483648) 1325400064)) % 4294967296 ≡ cast_word (of_bits binary32 b)
  unfolding cast_word to_signed
  word_down h = kinds (λ (x : Float). (4294967296 - whole_of (min (b % 2147483648) 1325400064)) % 4294967296 ≡ cast_word x)
      (λ l v. rw ((cut (of_bits binary32 b) _ _ v).1, le-leb 2147483648 b h, clamped b) (sym (back_at (min (whole_of b) (2 ^ 31)))))
      (λ e. rw (le-leb 2147483648 b h, clamped b) (rw (sym (most (whole_of b) (2 ^ 31) (whole_ge b 31 (omega arith)))) (sym (back_at (2 ^ 31)))))

  unsigned_below : b < 1602224128 → whole_of b ≡ to_unsigned 64 (of_bits binary32 b)
  unfolding to_unsigned
  unsigned_below h = kinds (λ (x : Float). whole_of b ≡ to_unsigned 64 x)
      (λ l v. rw ((cut (of_bits binary32 b) _ _ v).0, lt-leb 2147483648 b (omega arith)) (least (whole_of b) (2 ^ 64 - 1) (under (whole_of b) (whole_lt b 64 (omega arith)))))
      (λ e. absurd (omega arith))
    where
      under : (z : ℕ) → z < 2 ^ 64 → z ≤ 2 ^ 64 - 1
      under z h = omega arith

  unsigned_past : 1602224128 ≤ b → b < 2147483648 → 18446744073709551615 ≡ to_unsigned 64 (of_bits binary32 b)
  unfolding to_unsigned
  unsigned_past l h = kinds (λ (x : Float). 18446744073709551615 ≡ to_unsigned 64 x)
      (λ f v. rw ((cut (of_bits binary32 b) _ _ v).0, lt-leb 2147483648 b h) (most (whole_of b) (2 ^ 64 - 1) (past (whole_of b) (whole_ge b 64 (omega arith)))))
      (λ e. rw (lt-leb 2147483648 b h))
    where
      past : (z : ℕ) → 2 ^ 64 ≤ z → 2 ^ 64 - 1 ≤ z
      past z h = omega arith

  unsigned_negative : 2147483648 ≤ b → 0 ≡ to_unsigned 64 (of_bits binary32 b)
  unfolding to_unsigned
  unsigned_negative h = kinds (λ (x : Float). 0 ≡ to_unsigned 64 x) (λ f v. rw ((cut (of_bits binary32 b) _ _ v).0, le-leb 2147483648 b h)) (λ e. rw (le-leb 2147483648 b h))

-- a pattern times 0 where its sign is set
pub kept : (b : ℕ) → b < 2147483648 → b * (1 - b / 2147483648) ≡ b
kept b h = rw (clear b h) (mul-one b)
  where
    clear : (b : ℕ) → b < 2147483648 → 1 - b / 2147483648 ≡ 1
    clear b h = omega arith

pub left_out : (b : ℕ) → 2147483648 ≤ b → b * (1 - b / 2147483648) ≡ 0
left_out b h = rw (set b h) (mul-zero b)
  where
    set : (b : ℕ) → 2147483648 ≤ b → 1 - b / 2147483648 ≡ 0
    set b h = omega arith

module _ (b : ℕ) (B : b < 4294967296) (N : is_nan (of_bits binary32 b) ≡ false) where
  abbrev c : ℕ
  c = b * (1 - b / 2147483648)

  pub unsigned_small : c < 1602224128 → whole_of (min c 1602224127) ≡ to_unsigned 64 (of_bits binary32 b)
  unsigned_small h = elim (dec_le 2147483648 b) [
    | yes g ↦ rw (left_out b g) (unsigned_negative b B N g)
    | no f ↦
        let g = lt_of_not-le f in
        let e = kept b g in
        rw e (ap whole_of (under b (subst (λ (z : ℕ). z < 1602224128) e h)) ∙ unsigned_below b B N (subst (λ (z : ℕ). z < 1602224128) e h))
  ]
    where
      under : (b : ℕ) → b < 1602224128 → min b 1602224127 ≡ b
      under b h = omega arith

  pub unsigned_large : 1602224128 ≤ c → 18446744073709551615 ≡ to_unsigned 64 (of_bits binary32 b)
  unsigned_large h = elim (dec_le 2147483648 b) [
    | yes g ↦ absurd (never (subst (λ (z : ℕ). 1602224128 ≤ z) (left_out b g) h))
    | no f ↦ let g = lt_of_not-le f in unsigned_past b B N (subst (λ (z : ℕ). 1602224128 ≤ z) (kept b g) h) g
  ]
    where
      never : 1602224128 ≤ 0 → ⊥
      never l = omega arith

  -- below 2 ^ 31 in size nothing is cut
  module _ (h : b % 2147483648 < 1325400064) where
    short : min (b % 2147483648) 1325400064 ≡ b % 2147483648
    short = omega arith

    pub short_lt : whole_of (b % 2147483648) < 2 ^ 31
    short_lt = whole_lt (b % 2147483648) 31 (omega arith)

    pub short_up : b < 2147483648 → whole_of (b % 2147483648) ≡ cast_word (of_bits binary32 b)
    short_up s = under (whole_of (b % 2147483648)) short_lt ∙ ap (λ (z : ℕ). min (whole_of z) 2147483647) (sym short) ∙ word_up b B N s
      where
        under : (z : ℕ) → z < 2 ^ 31 → z ≡ min z 2147483647
        under z l = omega arith

    pub short_down : 2147483648 ≤ b → (4294967296 - whole_of (b % 2147483648)) % 4294967296 ≡ cast_word (of_bits binary32 b)
    short_down s = ap (λ (z : ℕ). (4294967296 - whole_of z) % 4294967296) (sym short) ∙ word_down b B N s

  -- from 2 ^ 31 on all is
  module _ (h : 1325400064 ≤ b % 2147483648) where
    cut_off : min (b % 2147483648) 1325400064 ≡ 1325400064
    cut_off = omega arith

    pub top_up : b < 2147483648 → 2147483647 ≡ cast_word (of_bits binary32 b)
    top_up s = ap (λ (z : ℕ). min (whole_of z) 2147483647) (sym cut_off) ∙ word_up b B N s

    pub top_down : 2147483648 ≤ b → 2147483648 ≡ cast_word (of_bits binary32 b)
    top_down s = ap (λ (z : ℕ). (4294967296 - whole_of z) % 4294967296) (sym cut_off) ∙ word_down b B N s
