-- What `scaled` says, in the document's words: with N the floor of x * 65,536, it is n = N + 128 * 65,536 (`plus_floor`; for a negative x, N is minus the ceiling of
-- its size times 65,536, `minus_floor`), and i, j and r are read off n (`letters`). Assumes nothing.
use mathlib.Core.Path.{◌≡◌, sym, ap, ◌∙◌}
use mathlib.Core.Bool.{true, false}
use Prim.Native.Nat.{ℕ, suc, ◌+◌, ◌-◌, ◌*◌, ◌/◌, ◌≤◌, ◌<◌}
use native.Mathlib.Nat.{le_of_eq, le_antisymm, le_of_suc-le-suc, le-div_iff_mul-le, div-lt_iff_lt-mul, lt_of_lt_of_le, add-mul, one-mul, mul-add-div_right}
use native.Mathlib.Omega.{arith}
use lib.IntN.{ℤ}
use lib.Ieee.{fin, up, down}
use lib.Ieee.Fits.{down_pos}
use Rattle.floats.specs.Exp2.{scaled, i_of+128, j_of, r_of}

-- a quotient is the one number between these bounds
only : (a d q : ℕ) → 0 < d → q * d ≤ a → a < (q + 1) * d → a / d ≡ q
only a d q D lo hi = le_antisymm (le_of_suc-le-suc (one_more ((div-lt_iff_lt-mul D).1 hi))) ((le-div_iff_mul-le D).1 lo)
  where
    one_more : a / d < q + 1 → a / d < suc q
    one_more h = omega arith

pub plus_floor : (m : ℕ) (e : ℤ) → scaled (fin false m e) ≡ 8388608 + m * up e * 65536 / down e
unfolding scaled
plus_floor m e = mul-add-div_right (down_pos e) 8388608 (m * up e * 65536)

-- c is the ceiling: a ≤ c * d < a + d
pub minus_floor : (m : ℕ) (e : ℤ) (c : ℕ) → m * up e * 65536 ≤ c * down e → c * down e < m * up e * 65536 + down e → c ≤ 8388608 → scaled (fin true m e) ≡ 8388608 - c
unfolding scaled
minus_floor m e c lo hi C =
    let a = m * up e * 65536 in
    let d = down e in
    let k = 8388608 - c in
    let h : k * d + c * d ≡ 8388608 * d = sym (add-mul k c d) ∙ ap (λ (x : ℕ). x * d) (back c C) in
    only (8388608 * d - a) d k (down_pos e) (low (k * d) (c * d) (8388608 * d) a h lo) (lt_of_lt_of_le (high (k * d) (c * d) (8388608 * d) a d h hi (down_pos e)) (le_of_eq (sym (add-mul k 1 d ∙ ap (λ (x : ℕ). k * d + x) (one-mul d)))))
  where
    back : (c : ℕ) → c ≤ 8388608 → 8388608 - c + c ≡ 8388608
    back c h = omega arith

    low : (kd cd w a : ℕ) → kd + cd ≡ w → a ≤ cd → kd ≤ w - a
    low kd cd w a h l = omega arith

    high : (kd cd w a d : ℕ) → kd + cd ≡ w → cd < a + d → 0 < d → w - a < kd + d
    high kd cd w a d h l p = omega arith

-- i, j and r are N's: N + 128 * 65,536 is (i + 128) * 65,536 + j * 256 + r, with j and r below 256
pub letters : (n : ℕ) → (n ≡ i_of+128 n * 65536 + j_of n * 256 + r_of n) × (j_of n < 256) × (r_of n < 256)
letters n = omega arith
