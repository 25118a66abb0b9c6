-- The mix of two entries of the table, at the number n of 65,536ths: what it is made of fits, and it has 24 digits. Assumes nothing.
use mathlib.Core.Bool.{false}
use mathlib.Core.Path.{◌≡◌, ap, ◌∙◌}
use Prim.Native.Nat.{ℕ, ◌+◌, ◌-◌, ◌*◌, ◌/◌, ◌%◌, ◌≤◌, ◌<◌}
use native.Mathlib.Nat.{mul-le-mul_right}
use native.Mathlib.Omega.{arith}
use lib.Ieee.{odd}
use Rattle.floats.specs.Exp2.{entry_of, mix, pow_at}
use Rattle.floats.proofs.Entries.{range}

pub record Mixed (a b w r : ℕ) : Type 0 where
  pub first : a * w < 4294967296
  pub second : b * r < 4294967296
  pub low : 8388608 ≤ (a * w + b * r) / 256
  pub high : (a * w + b * r) / 256 < 16777216

mixed : (a b w r : ℕ) → w + r ≡ 256 → 0 < w → 8388608 ≤ a → a ≤ 16777215 → 8388608 ≤ b → b ≤ 16777216 → Mixed a b w r
mixed a b w r e p a₁ a₂ b₁ b₂ =
    let x = mul-le-mul_right w a₁ in
    let y = mul-le-mul_right w a₂ in
    let u = mul-le-mul_right r b₁ in
    let v = mul-le-mul_right r b₂ in
    record { first = omega arith; second = omega arith; low = omega arith; high = omega arith }

-- at the entries of n
pub at : (n a b : ℕ) → a ≡ entry_of (n / 256 % 256) → b ≡ entry_of (n / 256 % 256 + 1) → Mixed a b (256 - n % 256) (n % 256)
at n a b p q =
    let j = n / 256 % 256 in
    let f = range j (omega arith) in
    let g = range (j + 1) (omega arith) in
    mixed a b (256 - n % 256) (n % 256) (omega arith) (omega arith) (omega arith) (omega arith) (omega arith) (omega arith)

pub powers : (n a b : ℕ) → a ≡ entry_of (n / 256 % 256) → b ≡ entry_of (n / 256 % 256 + 1) → odd 24 false ((a * (256 - n % 256) + b * (n % 256)) / 256) (n / 65536 - 2) 149 ≡ pow_at n
unfolding pow_at mix
powers n a b p q =
    ap (λ (x : ℕ). odd 24 false ((x * (256 - n % 256) + b * (n % 256)) / 256) (n / 65536 - 2) 149) p
    ∙ ap (λ (x : ℕ). odd 24 false ((entry_of (n / 256 % 256) * (256 - n % 256) + x * (n % 256)) / 256) (n / 65536 - 2) 149) q
