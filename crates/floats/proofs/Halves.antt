-- A word's two halves as floats, read off patterns, and the float nearest the word. Assumes nothing.
use mathlib.Core.Path.{◌≡◌, refl, sym, ap, ◌∙◌, subst}
use mathlib.Core.Bool.{Bool, true, false}
use Prim.Native.Nat.{ℕ, suc, ◌+◌, ◌-◌, ◌*◌, ◌/◌, ◌%◌, ◌^◌, ◌<◌, ◌≤◌}
use native.Mathlib.Decide.{dec_le}
use native.Mathlib.Nat.{lt_of_not-le, lt_of_lt_of_le, mul-one, mul_assoc, mul-lt-mul_of_pos_right}
use native.Mathlib.Omega.{arith}
use lib.IntN.{pos}
use lib.Dec.{lit<, lit≤}
use lib.Pow.{pow-add, pow_pos}
use lib.Ieee.{Float, binary32, add, sub, round, of_bits, of_int}
use lib.Ieee.Exact.{HasValue, odd_sign, round_exact}
use borrow.Author.Tests.{lt-ltb, le-ltb, lt-leb}
use Rattle.floats.specs.Casts.{as_signed}
use Rattle.floats.proofs.Patterns.{made}
use Rattle.floats.proofs.Values.{unit, sub_round, sub_below, add_round, rise_round, fall_round}

-- 2 ^ 39 + h * 65,536, and 2 ^ 23 + l
abbrev high : ℕ → Float
high h = of_bits binary32 (1392508928 + h)

abbrev low : ℕ → Float
low l = of_bits binary32 (1258291200 + l)

value_at : (k q a : ℕ) → k < 254 → 8388608 ≤ q → q < 16777216 → q * 2 ^ k ≡ a * 2 ^ 149 → HasValue (of_bits binary32 (k * 8388608 + q)) false a 1
value_at k q a K lo hi e = unit (of_bits binary32 (k * 8388608 + q)) a (subst (λ (n : ℕ). HasValue (of_bits binary32 (k * 8388608 + q)) false n (2 ^ 149)) e (subst (λ (x : Float). HasValue x false (q * 2 ^ k) (2 ^ 149)) (sym (made k q K lo hi)) (odd_sign 24 false q k 149)))

high_value : (h : ℕ) → h < 65536 → HasValue (high h) false (549755813888 + h * 65536) 1
high_value h H =
    subst (λ (b : ℕ). HasValue (of_bits binary32 b) false (549755813888 + h * 65536) 1) (pattern h)
    (value_at 165 (8388608 + h) (549755813888 + h * 65536) (lit< tt) (omega arith) (omega arith)
    (ap (λ (z : ℕ). (8388608 + h) * z) (pow-add 2 16 149) ∙ sym (mul_assoc (8388608 + h) 65536 (2 ^ 149)) ∙ ap (λ (z : ℕ). z * 2 ^ 149) (size h)))
  where
    pattern : (h : ℕ) → 165 * 8388608 + (8388608 + h) ≡ 1392508928 + h
    pattern h = omega arith

    size : (h : ℕ) → (8388608 + h) * 65536 ≡ 549755813888 + h * 65536
    size h = omega arith

low_value : (l : ℕ) → l < 65536 → HasValue (low l) false (8388608 + l) 1
low_value l L =
    subst (λ (b : ℕ). HasValue (of_bits binary32 b) false (8388608 + l) 1) (pattern l) (value_at 149 (8388608 + l) (8388608 + l) (lit< tt) (omega arith) (omega arith) refl)
  where
    pattern : (l : ℕ) → 149 * 8388608 + (8388608 + l) ≡ 1258291200 + l
    pattern l = omega arith

-- a multiple of 65,536 below 2 ^ 32 is a float
exact : (s : Bool) (d : ℕ) → d < 65536 → HasValue (round binary32 s (d * 65536) 1) s (d * 65536) 1
exact s d D =
    round_exact binary32 s (d * 65536) 1 d 165 (lit< tt) (omega arith) (lt_of_lt_of_le (mul-lt-mul_of_pos_right D (pow_pos 165)) (lit≤ tt))
    (mul_assoc d 65536 (2 ^ 149) ∙ ap (λ (z : ℕ). d * z) (sym (pow-add 2 16 149)) ∙ sym (mul-one (d * 2 ^ 165)))

module _ (h l K : ℕ) (H : h < 65536) (L : l < 65536) (B : K < 65536) where
  abbrev whole : Float
  whole = add binary32 (sub binary32 (high h) (high K)) (low l)

  -- the first difference is exact, of either sign
  up : K ≤ h → HasValue (sub binary32 (high h) (high K)) false ((h - K) * 65536) 1
  up g =
      subst (λ (x : Float). HasValue x false ((h - K) * 65536) 1)
      (sym (sub_round (high h) (high K) (549755813888 + h * 65536) (549755813888 + K * 65536) (high_value h H) (high_value K B) (omega arith) ∙ ap (λ (z : ℕ). round binary32 false z 1) (same h K g)))
      (exact false (h - K) (omega arith))
    where
      same : (h K : ℕ) → K ≤ h → 549755813888 + h * 65536 - (549755813888 + K * 65536) ≡ (h - K) * 65536
      same h K g = omega arith

  down : h < K → HasValue (sub binary32 (high h) (high K)) true ((K - h) * 65536) 1
  down g =
      subst (λ (x : Float). HasValue x true ((K - h) * 65536) 1)
      (sym (sub_below (high h) (high K) (549755813888 + h * 65536) (549755813888 + K * 65536) (high_value h H) (high_value K B) (omega arith) ∙ ap (λ (z : ℕ). round binary32 true z 1) (same h K g)))
      (exact true (K - h) (omega arith))
    where
      same : (h K : ℕ) → h < K → 549755813888 + K * 65536 - (549755813888 + h * 65536) ≡ (K - h) * 65536
      same h K g = omega arith

  positive : (n : ℕ) → h * 65536 + 8388608 + l ≡ n + K * 65536 → whole ≡ round binary32 false n 1
  positive n e = elim (dec_le K h) [
    | yes g ↦ add_round (sub binary32 (high h) (high K)) (low l) ((h - K) * 65536) (8388608 + l) (up g) (low_value l L) ∙ ap (λ (z : ℕ). round binary32 false z 1) (over g)
    | no f ↦
        let g = lt_of_not-le f in
        rise_round (sub binary32 (high h) (high K)) (low l) ((K - h) * 65536) (8388608 + l) (down g) (low_value l L) (omega arith) ∙ ap (λ (z : ℕ). round binary32 false z 1) (under g)
  ]
    where
      over : K ≤ h → (h - K) * 65536 + (8388608 + l) ≡ n
      over g = omega arith

      under : h < K → 8388608 + l - (K - h) * 65536 ≡ n
      under g = omega arith

  negative : (n : ℕ) → 0 < n → h * 65536 + 8388608 + l + n ≡ K * 65536 → whole ≡ round binary32 true n 1
  negative n P e =
      fall_round (sub binary32 (high h) (high K)) (low l) ((K - h) * 65536) (8388608 + l) (down (omega arith)) (low_value l L) (omega arith) ∙ ap (λ (z : ℕ). round binary32 true z 1) same
    where
      same : (K - h) * 65536 - (8388608 + l) ≡ n
      same = omega arith

-- 128 * 65,536 is 2 ^ 23
pub unsigned : (n : ℕ) → n < 2 ^ 32 → add binary32 (sub binary32 (high (n / 65536)) (high 128)) (low (n % 65536)) ≡ of_int binary32 (pos n)
unfolding of_int
unsigned n h = positive (n / 65536) (n % 65536) 128 (omega arith) (omega arith) (lit< tt) n (omega arith)

-- 32,896 * 65,536 is 2 ^ 31 + 2 ^ 23
pub signed : (n : ℕ) → n < 2 ^ 32 → add binary32 (sub binary32 (high ((n / 65536 + 32768) % 65536)) (high 32896)) (low (n % 65536)) ≡ of_int binary32 (as_signed n)
unfolding of_int as_signed
signed n h = elim (dec_le (2 ^ 31) n) [
  | yes g ↦
      rw (le-ltb n (2 ^ 31) g, lt-leb (2 ^ 32) n h)
      (negative ((n / 65536 + 32768) % 65536) (n % 65536) 32896 (omega arith) (omega arith) (lit< tt) (suc (4294967296 - suc n)) (omega arith) (omega arith))
  | no f ↦
      let g = lt_of_not-le f in
      rw (lt-ltb n (2 ^ 31) g) (positive ((n / 65536 + 32768) % 65536) (n % 65536) 32896 (omega arith) (omega arith) (lit< tt) n (omega arith))
]
