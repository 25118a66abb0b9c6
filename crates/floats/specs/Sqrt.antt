-- The square root of an f32: the f32 nearest the exact root, ties to even, said with whole-number squares. Definitions only.
-- A positive finite f32 is n / 2 ^ 149, n of the smallest values. Its root, in smallest values again, is the root of sq = n * 2 ^ 149.
-- `BySquares` says by squares alone which q * 2 ^ k is nearest that root, and `IsRoot` that y is that f32; `root_units` works it out.
-- `sqrt` promises both, that its answer is `sqrt_of x` and that it `IsRoot`. proofs/RootCases.antt shows that they agree (`is_root`), and
-- proofs/RootOnly.antt that any q and k which meet `BySquares` are the same f32 (`root_only`).
use Rattle.std.specs.Prelude.{◌≡◌, true, false, cond, leb, Float}
use Prim.Native.Nat.{ℕ, zero, suc, ◌+◌, ◌-◌, ◌*◌, ◌/◌, ◌%◌, ◌^◌, ◌≤◌, compare}
use Rattle.std.specs.Float.{nan, inf, fin}
use Rattle.std.specs.Float.Ieee.{up, down, size, nearest, odd}

-- q * 2 ^ k is the f32 nearest the root of sq.
-- The root is 2 ^ 23 * 2 ^ k at least (`place`). From there up to 2 ^ 24 * 2 ^ k the f32s are the multiples of 2 ^ k, and below it they lie closer, so
-- that a q of 2 ^ 23 would pass for a root that a number below is nearer to.
-- The root lies from (q - 1/2) * 2 ^ k to (q + 1/2) * 2 ^ k: each side is doubled and squared (`above`, `under`). Where it lies on an end, q is even.
pub record BySquares (sq q k : ℕ) : Type 0 where
  pub place : 2 ^ 46 * 2 ^ (k + k) ≤ sq
  pub least : 2 ^ 23 ≤ q
  pub most : q ≤ 2 ^ 24
  pub above : (2 * q - 1) * (2 * q - 1) * 2 ^ (k + k) ≤ 4 * sq
  pub under : 4 * sq ≤ (2 * q + 1) * (2 * q + 1) * 2 ^ (k + k)
  pub tie_above : (2 * q - 1) * (2 * q - 1) * 2 ^ (k + k) ≡ 4 * sq → q % 2 ≡ 0
  pub tie_under : 4 * sq ≡ (2 * q + 1) * (2 * q + 1) * 2 ^ (k + k) → q % 2 ≡ 0

-- y is the f32 nearest the root of n / 2 ^ 149, by squares alone. `odd 24 false q k 149` is the f32 q * 2 ^ k / 2 ^ 149.
pub record IsRoot (n : ℕ) (y : Float) : Type 0 where
  pub q : ℕ
  pub k : ℕ
  pub squares : BySquares (n * 2 ^ 149) q k
  pub is : y ≡ odd 24 false q k 149

-- r, or r + 1 where the square of that is still at most n
abbrev pub up_to : ℕ → ℕ → ℕ
up_to n r = cond (leb ((r + 1) * (r + 1)) n) (r + 1) r

-- the largest r with r * r ≤ n, for an n below 4 ^ d: each pair of n's binary digits gives one digit of r
unfoldable pub root_in : ℕ → ℕ → ℕ
root_in zero n = 0
root_in (suc d) n = up_to n (2 * root_in d (n / 4))

-- the largest r with r * r ≤ n (`floor_root` of proofs/FloorRoot.antt)
unfoldable pub isqrt : ℕ → ℕ
unfolding root_in
isqrt n = root_in (size n) n

-- q, or q + 1: whichever multiple of 2 ^ k, q * 2 ^ k or (q + 1) * 2 ^ k, is nearer the root of sq, and at a tie the even one.
-- Half way between them lies (2 * q + 1) * 2 ^ k / 2, and four times its square is (2 * q + 1) ^ 2 * 2 ^ (2 * k).
abbrev pub nearer : ℕ → ℕ → ℕ → ℕ
nearer sq k q = nearest q (compare (4 * sq) ((2 * q + 1) * (2 * q + 1) * 2 ^ (k + k)))

-- The root of n / 2 ^ 149, n above 0. The whole part s of the root of sq has more than 24 digits; the format keeps 24 of them and drops k.
unfoldable pub root_units : ℕ → Float
unfolding isqrt size odd
root_units n =
    let sq = n * 2 ^ 149 in
    let s = isqrt sq in
    let k = size s - 24 in
    odd 24 false (nearer sq k (s / 2 ^ k)) k 149

-- By document 01: below zero, -infinity too, it is NaN, of -0 it is -0 (and of +0 it is +0), of +infinity +infinity, of NaN NaN.
-- Any other x, m * up e / down e, is a whole number of smallest values, m * up e * 2 ^ 149 / down e.
unfoldable pub sqrt_of : Float → Float
unfolding root_units
sqrt_of nan = nan
sqrt_of (inf true) = nan
sqrt_of (inf false) = inf false
sqrt_of (fin s zero e) = fin s zero e
sqrt_of (fin true (suc m) e) = nan
sqrt_of (fin false (suc m) e) = root_units (suc m * up e * 2 ^ 149 / down e)
