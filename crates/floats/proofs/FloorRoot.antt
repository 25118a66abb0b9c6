-- `isqrt n` is the largest number whose square is at most n. Assumes nothing.
use mathlib.Core.Path.{◌≡◌, ap, ◌∙◌}
use mathlib.Core.Bool.{Bool, true, false, not, cond}
use Prim.Native.Nat.{ℕ, zero, suc, ◌+◌, ◌*◌, ◌/◌, ◌^◌, ◌≤◌, ◌<◌}
use native.Mathlib.Nat.{le_of_eq, lt_of_lt_of_le, le-add_right, div-lt_iff_lt-mul}
use native.Mathlib.Omega.{arith}
use lib.Dec.{T, leb, leb→le, nleb→lt, lit<}
use lib.Pow.{pow-add, pow_mono}
use lib.Ieee.{size}
use lib.Ieee.Digits.{size-lt}
use Rattle.floats.specs.Sqrt.{up_to, root_in, isqrt}

abbrev pub FloorRoot : ℕ → ℕ → Type 0
FloorRoot n r = (r * r ≤ n) × (n < (r + 1) * (r + 1))

-- the last digit: from a root that is at most one too small
last : (n r : ℕ) → r * r ≤ n → n < (r + 2) * (r + 2) → FloorRoot n (up_to n r)
last n r lo hi = go (leb ((r + 1) * (r + 1)) n) (leb→le ((r + 1) * (r + 1)) n) (nleb→lt ((r + 1) * (r + 1)) n)
  where
    go : (t : Bool) → (T t → (r + 1) * (r + 1) ≤ n) → (T (not t) → n < (r + 1) * (r + 1)) → FloorRoot n (cond t (r + 1) r)
    go true x y = (x tt, omega arith)
    go false x y = (lo, y tt)

in_root : (d n : ℕ) → n < 2 ^ (d + d) → FloorRoot n (root_in d n)
unfolding root_in
in_root zero n h = (omega arith, h)
in_root (suc d) n h =
    let r = root_in d (n / 4) in
    let f = in_root d (n / 4) ((div-lt_iff_lt-mul (lit< tt)).1 (lt_of_lt_of_le h (le_of_eq (ap (λ (x : ℕ). 2 ^ x) (two_more d) ∙ pow-add 2 (d + d) 2)))) in
    last n (2 * r) (low r f.0) (high r f.1)
  where
    two_more : (d : ℕ) → suc d + suc d ≡ d + d + 2
    two_more d = omega arith

    low : (r : ℕ) → r * r ≤ n / 4 → 2 * r * (2 * r) ≤ n
    low r h = omega arith

    high : (r : ℕ) → n / 4 < (r + 1) * (r + 1) → n < (2 * r + 2) * (2 * r + 2)
    high r h = omega arith

pub floor_root : (n : ℕ) → FloorRoot n (isqrt n)
unfolding isqrt
floor_root n = in_root (size n) n (lt_of_lt_of_le (size-lt n) (pow_mono (le-add_right (size n) (size n))))
