-- A size n / d below 2 ^ 23, plus 2 ^ 23, rounds to a whole number: the whole part of n / d + 2 ^ 23, or one more. Assumes nothing.
use mathlib.Core.Path.{◌≡◌, refl, sym, ap, ◌∙◌}
use mathlib.Core.Bool.{false}
use Prim.Native.Nat.compare
use Prim.Native.Nat.{Ordering}
use Prim.Native.Nat.{ℕ, zero, suc, ◌+◌, ◌-◌, ◌*◌, ◌/◌, ◌%◌, ◌^◌, ◌<◌, ◌≤◌, compare}
use native.Mathlib.Nat.{lt_irrefl, mul-one, mul_assoc, mul_comm, mul_right_comm, mul-pos, mul-le-mul_right, mul-lt-mul_of_pos_right, le_of_eq, le_trans, lt_of_lt_of_le, lt_of_le_of_lt, lt_of_not-le, not-le_of_lt, le-div_iff_mul-le, div-lt_iff_lt-mul, add-mul-div_right, add-mul-mod_self_right}
use native.Mathlib.Omega.{arith}
use lib.IntN.{ℤ, pos}
use lib.Pow.{pow_pos, pow_mono}
use lib.Dec.{lit<}
use lib.Ieee.{Float, fin, binary32, up, down, size, units, round, add, sub, sum, nearest}
use lib.Ieee.Digits.{size-lt, size-le}
use lib.Ieee.Fits.{down_pos, round_is, nearest-le}
use lib.Ieee.Exact.{HasValue, units_val}
use lib.Ieee.Nearest.{closest, closest_same, nearest-ge}
use Rattle.floats.proofs.Values.{unit, sub_whole}

exactly : (z : ℕ) → z ≤ 173 → 172 < z → z - 24 ≡ 149
exactly z h k = omega arith

-- n / d from 2 ^ 23 on and below 2 ^ 24: its whole part in units of 2 ^ -149 has 173 digits, of which 149 are dropped
dropped : (n d : ℕ) → 0 < d → 8388608 * d ≤ n → n < 16777216 * d → size (n * 2 ^ 149 / d) - 24 ≡ 149
dropped n d D lo hi =
    let w = n * 2 ^ 149 / d in
    let l : 2 ^ 172 ≤ w = (le-div_iff_mul-le D).1 (le_trans (le_of_eq (sym (mul_right_comm 8388608 d (2 ^ 149)))) (mul-le-mul_right (2 ^ 149) lo)) in
    let h : w < 2 ^ 173 = (div-lt_iff_lt-mul D).1 (lt_of_lt_of_le (mul-lt-mul_of_pos_right hi (pow_pos 149)) (le_of_eq (mul_right_comm 16777216 d (2 ^ 149)))) in
    exactly (size w) (size-le w 173 h) (lt_of_not-le (λ (g : size w ≤ 172). not-le_of_lt (lt_of_lt_of_le (size-lt w) (pow_mono g)) l))

pub rounded : (n d : ℕ) → 0 < d → 8388608 * d ≤ n → n < 16777216 * d → closest n d ≤ 2 ^ 24 → HasValue (round binary32 false n d) false (closest n d) 1
rounded n d D lo hi top =
    let e : round binary32 false n d ≡ units binary32 false (closest n d) 149 =
    round_is binary32 false n d
    ∙ ap (λ (k : ℕ). units binary32 false (closest (n * 2 ^ 149) (d * 2 ^ k)) k) (dropped n d D lo hi)
    ∙ ap (λ (k : ℕ). units binary32 false k 149) (closest_same (n * 2 ^ 149) (d * 2 ^ 149) n d (mul-pos D (pow_pos 149)) D (simp (mul_assoc, mul_comm d))) in
    unit (round binary32 false n d) (closest n d) (rw e (units_val binary32 false (closest n d) 149 (lt_of_le_of_lt (mul-le-mul_right (2 ^ 149) top) (lit< tt))))

-- ---- what it is near to
abbrev pub near : ℕ → ℕ → ℕ
near n d = closest (n + 8388608 * d) d

pub near_is : (n d : ℕ) → 0 < d → near n d ≡ nearest (n / d + 8388608) (compare (n % d * 2) d)
near_is n d D = rw (add-mul-div_right n 8388608 D, add-mul-mod_self_right n 8388608 d)

pub near_ge : (n d : ℕ) → 0 < d → n / d + 8388608 ≤ near n d
near_ge n d D = rw (near_is n d D) (nearest-ge (n / d + 8388608) (compare (n % d * 2) d))

pub near_le : (n d : ℕ) → 0 < d → near n d ≤ suc (n / d + 8388608)
near_le n d D = rw (near_is n d D) (nearest-le (n / d + 8388608) (compare (n % d * 2) d))

pub least : (u : ℕ) → 0 < u → compare (0 * 2) u ≡ Ordering.lt
least zero h = absurd (lt_irrefl 0 h)
least (suc u) h = compare.zero-suc u

-- the whole part of n / d, or one more
abbrev pub part : ℕ → ℕ → ℕ
part n d = near n d - 8388608

abbrev pub two23 : Float
two23 = fin false 1 (pos 23)

abbrev pub shifted : Float → Float
shifted x = sub binary32 (add binary32 x two23) two23

sum_is : (m : ℕ) (e : ℤ) → add binary32 (fin false m e) two23 ≡ round binary32 false (m * up e + 8388608 * down e) (down e)
unfolding add sum
sum_is m e = rw (mul-one (m * up e), mul-one (down e))

pub sum_value : (m : ℕ) (e : ℤ) → m * up e < 8388608 * down e → HasValue (add binary32 (fin false m e) two23) false (near (m * up e) (down e)) 1
sum_value m e h =
    let n = m * up e in
    let d = down e in
    let D = down_pos e in
    let q : n / d < 8388608 = (div-lt_iff_lt-mul D).1 h in
    let l = near_le n d D in
    rw (sum_is m e) (rounded (n + 8388608 * d) d D (omega arith) (omega arith) (omega arith))

pub whole_part : (m : ℕ) (e : ℤ) → m * up e < 8388608 * down e → HasValue (shifted (fin false m e)) false (part (m * up e) (down e)) 1
whole_part m e h =
    let q : m * up e / down e < 8388608 = (div-lt_iff_lt-mul (down_pos e)).1 h in
    let g = near_ge (m * up e) (down e) (down_pos e) in
    let l = near_le (m * up e) (down e) (down_pos e) in
    sub_whole (add binary32 (fin false m e) two23) two23 (near (m * up e) (down e)) 8388608 (sum_value m e h) (refl, refl) (omega arith) (omega arith)
