-- The fraction of a word is its low 21 bits over 2 ^ 21, exactly (`fraction_value`), and so is what is left of 4 and as many units of 2 ^ -21
-- (`fraction_by_pattern`). Assumes nothing.
use mathlib.Core.Path.{◌≡◌, refl, sym, ap, ◌∙◌, subst}
use mathlib.Core.Bool.{false}
use Prim.Native.Nat.{ℕ, ◌+◌, ◌-◌, ◌*◌, ◌%◌, ◌^◌, ◌<◌}
use native.Mathlib.Nat.{lt_of_lt_of_le, mul-one, mul_assoc}
use native.Mathlib.Omega.{arith}
use lib.IntN.{pos}
use lib.Dec.{lit<, lit≤}
use lib.Pow.{pow_pos, shl_lt}
use lib.Ieee.{Float, binary32, round, of_bits, of_int}
use lib.Ieee.Exact.{HasValue, odd_sign, round_exact}
use lib.Ieee.Back.{round_whole}
use Rattle.floats.specs.F32.{◌⊖◌, ◌⊘◌, bits, 4f}
use Rattle.floats.proofs.Patterns.{made}
use Rattle.floats.proofs.Values.{reduced, sub_over}
use Rattle.floats.proofs.Exact.{div_value}
use Rattle.reads.specs.Reads.{fraction_of}

-- n / 2 ^ 21, rounded
abbrev over : ℕ → Float
over n = round binary32 false n 2097152

-- 4 and n units of 2 ^ -21
unit_value : (n : ℕ) → n < 2097152 → HasValue (bits (1082130432 + n)) false (8388608 + n) 2097152
unit_value n h =
    subst (λ (b : ℕ). HasValue (bits b) false (8388608 + n) 2097152) (pattern n)
    (reduced (bits (128 * 8388608 + (8388608 + n))) (8388608 + n) 2097152 (2 ^ 128) (pow_pos 128)
    (subst (λ (x : Float). HasValue x false ((8388608 + n) * 2 ^ 128) (2 ^ 149)) (sym (made 128 (8388608 + n) (lit< tt) (omega arith) (omega arith))) (odd_sign 24 false (8388608 + n) 128 149)))
  where
    pattern : (n : ℕ) → 128 * 8388608 + (8388608 + n) ≡ 1082130432 + n
    pattern n = omega arith

left_over_lem : (n : ℕ) → n < 2097152 → bits (1082130432 + n) ⊖ 4f ≡ over n
left_over_lem n h =
    sub_over (bits (1082130432 + n)) 4f (8388608 + n) 8388608 2097152 (lit< tt) (unit_value n h) (unit_value 0 (lit< tt)) (omega arith)
    ∙ ap over (rest n)
  where
    rest : (n : ℕ) → 8388608 + n - 8388608 ≡ n
    rest n = omega arith

scale_value : HasValue (bits 0x4a00_0000) false 2097152 1
unfolding of_bits
scale_value = (refl, refl)

quotient : (n : ℕ) → n < 2097152 → of_int binary32 (pos n) ⊘ bits 0x4a00_0000 ≡ over n
unfolding of_int
quotient n h =
    div_value binary32 (round binary32 false n 1) (bits 0x4a00_0000) false false n 1 2097152 1 (lit< tt) (lit< tt) (lit< tt) (round_whole binary32 false n (omega arith)) scale_value
    ∙ ap over (mul-one n)

pub fraction_by_pattern : (word : ℕ) → bits (1082130432 + word % 2097152) ⊖ 4f ≡ fraction_of word
unfolding fraction_of
fraction_by_pattern word = left_over_lem (word % 2097152) (omega arith) ∙ sym (quotient (word % 2097152) (omega arith))

pub fraction_value : (word : ℕ) → HasValue (fraction_of word) false (word % 2 ^ 21) (2 ^ 21)
unfolding fraction_of
fraction_value word = rw (quotient (word % 2097152) (omega arith)) (exact (word % 2097152) (omega arith))
  where
    exact : (n : ℕ) → n < 2097152 → HasValue (over n) false n 2097152
    exact n h = round_exact binary32 false n 2097152 n 128 (lit< tt) (omega arith) (lt_of_lt_of_le (shl_lt 21 128 h) (lit≤ tt)) (sym (mul_assoc n (2 ^ 128) 2097152))
