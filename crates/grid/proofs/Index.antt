-- Where cells lie: row r of lane l, of n lanes, at r * n + l. No two cells lie at one place. Assumes nothing.
use mathlib.Core.Path.{◌≡◌, ap}
use Prim.Native.Nat.{ℕ, ◌+◌, ◌*◌, ◌≤◌, ◌<◌}
use native.Mathlib.Nat.{mul-le-mul, mul-le-mul_right, le_of_lt, suc-mul}
use native.Mathlib.Omega.{arith}

-- and a place is a number of 32 bits
pub small_place : (row n : ℕ) → row < 65536 → n ≤ 64 → row * n ≤ 4194304
small_place row n h hn = mul-le-mul (le_of_lt h) hn

-- a row below `rows` ends within rows × n cells
pub whole_row : (r rows n : ℕ) → r < rows → r * n + n ≤ rows * n
whole_row r rows n h = omega (arith, mul-le-mul_right n h, suc-mul r n)

-- and so a cell of it lies there
pub row_in : (r rows l n : ℕ) → r < rows → l < n → r * n + l < rows * n
row_in r rows l n h hl = omega (arith, whole_row r rows n h)

-- two cells at one place are of one row
pub same_row : (r s l m n : ℕ) → l < n → m < n → r * n + l ≡ s * n + m → r ≡ s
same_row r s l m n hl hm e =
    let up : r < s → ⊥ = λ h. omega (arith, row_in r s l n h hl) in
    let down : s < r → ⊥ = λ h. omega (arith, row_in s r m n h hm) in
    omega arith

-- and of one lane
pub same_lane : (r s l m n : ℕ) → l < n → m < n → r * n + l ≡ s * n + m → l ≡ m
same_lane r s l m n hl hm e = omega (arith, ap (λ (k : ℕ). k * n) (same_row r s l m n hl hm e))
