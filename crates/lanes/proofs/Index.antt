-- A float that `min` keeps to 1,023 is, as an index, at most 1,023. Assumes nothing.
use Rattle.std.proofs.Common.{◌≡◌, ℕ, ◌*◌, ◌/◌, ◌^◌, ◌<◌, ◌≤◌, Bool, true, false, cond, T, pos, refl, subst, lt_of_le_of_lt, le_of_lt, div-lt_iff_lt-mul, mul-le-mul_left, mul-lt-mul_of_pos_right, arith, lit<, lit≤, ltb-false}
use lib.Ieee.{Float, nan, inf, fin, up, down, lt, to_unsigned, of_bits}
use lib.Ieee.Fits.{down_pos}
use Rattle.floats.specs.F32.{bits}
use Rattle.lanes.specs.Lane.{min_of}

apart : {A : Type 0} → true ≡ false → A
apart t = absurd (subst T t tt)

-- 1,023
abbrev top : Float
top = fin false 1023 (pos 0)

not_above : (y : Float) → lt top y ≡ false → to_unsigned 64 y ≤ 1023
unfolding lt to_unsigned
not_above nan q = lit≤ tt
not_above (inf false) q = apart q
not_above (inf true) q = lit≤ tt
not_above (fin true m e) q = lit≤ tt
not_above (fin false m e) q =
    let h : m * up e < 1024 * down e = (let h = ltb-false (1023 * down e) (m * up e * 1) q in let d = down_pos e in omega arith) in
    let l : m * up e / down e < 1024 = (div-lt_iff_lt-mul (down_pos e)).1 h in
    omega arith

at_top : to_unsigned 64 top ≤ 1023
unfolding to_unsigned
at_top = lit≤ tt

pub index_le : (y : Float) → to_unsigned 64 (min_of y (bits 0x447f_c000)) ≤ 1023
unfolding min_of of_bits
index_le y = go (lt top y) refl
  where
    go : (t : Bool) → lt top y ≡ t → to_unsigned 64 (cond t top y) ≤ 1023
    go true e = at_top
    go false e = not_above y e

-- a product of two words fits a u64
pub product : (a b : ℕ) → a < 2 ^ 32 → b < 2 ^ 32 → a * b < 2 ^ 64
product a b ha hb = lt_of_le_of_lt (mul-le-mul_left a (le_of_lt hb)) (mul-lt-mul_of_pos_right ha (lit< tt))
