-- The nearest whole number by squares, and the pattern of a root: put together from the nearest whole number, read back, and taken down by 2 ^ 12. Assumes nothing.
use mathlib.Core.Path.{◌≡◌, sym, ap, ◌∙◌, subst}
use Prim.Native.Nat.{ℕ, zero, suc, ◌+◌, ◌-◌, ◌*◌, ◌/◌, ◌%◌, ◌^◌, ◌≤◌, ◌<◌}
use native.Mathlib.Nat.{le_trans, le_of_eq, lt_of_le_of_lt, lt_of_not-le, mul_assoc, mul-le-mul, mul-le-mul_right}
use native.Mathlib.Omega.{arith}
use lib.Pow.{pow-add}
use lib.Dec.{lit<}
use lib.Ieee.{binary32, of_bits}
use Rattle.floats.specs.Promises.{NearestRoot, RootPattern}
use Rattle.floats.specs.Sqrt.{root_units, BySquares}
use Rattle.floats.proofs.Patterns.{made}
use Rattle.floats.proofs.RootOnly.{root_only, of_nearest}

pub square_fits : (r : ℕ) → r < 2 ^ 32 → r * r < 2 ^ 64
square_fits r h = lt_of_le_of_lt (mul-le-mul (most r h) (most r h)) (lit< tt)
  where
    most : (r : ℕ) → r < 2 ^ 32 → r ≤ 2 ^ 32 - 1
    most r h = omega arith

-- of an n whose root has 24 digits
pub root_under : (n r : ℕ) → n ≤ 2 ^ 48 - 2 ^ 24 → r * r < n + r → r < 2 ^ 24
root_under n r N h = lt_of_not-le (λ (g : 2 ^ 24 ≤ r). no g (mul-le-mul_right r g))
  where
    no : 2 ^ 24 ≤ r → 2 ^ 24 * r ≤ r * r → ⊥
    no g l = omega arith

root_least : (n r : ℕ) → 2 ^ 46 ≤ n → n ≤ r * r + r → 2 ^ 23 ≤ r
root_least n r N h = lt_of_not-le (λ (g : r ≤ 2 ^ 23 - 1). no g (mul-le-mul_right r g))
  where
    no : r ≤ 2 ^ 23 - 1 → r * r ≤ (2 ^ 23 - 1) * r → ⊥
    no g l = omega arith

pub nearest_root : (n r : ℕ) → 2 ^ 46 ≤ n → n ≤ 2 ^ 48 - 2 ^ 24 → r * r < n + r → n ≤ r * r + r → NearestRoot n r
nearest_root n r N M above under = record { low = root_least n r N under; high = root_under n r M above; above = above; under = under }

-- 24 digits moved up by 23 or 24 places
pub raised : (m p : ℕ) → p < 2 → 2 ^ 23 ≤ m → m < 2 ^ 24 → (2 ^ 46 ≤ m * 2 ^ (23 + p)) × (m * 2 ^ (23 + p) ≤ 2 ^ 48 - 2 ^ 24)
raised m zero P l h = omega arith
raised m (suc zero) P l h = omega arith
raised m (suc (suc p)) P l h = absurd (no p P)
  where
    no : (p : ℕ) → suc (suc p) < 2 → ⊥
    no p h = omega arith

-- a pattern by its exponent and its significand of 24 digits
exponent_of_lem : (k q : ℕ) → 2 ^ 23 ≤ q → q < 2 ^ 24 → k ≡ (k * 8388608 + q) / 8388608 - 1
exponent_of_lem k q l h = omega arith

significand_of_lem : (k q : ℕ) → 2 ^ 23 ≤ q → q < 2 ^ 24 → q ≡ 8388608 + (k * 8388608 + q) % 8388608
significand_of_lem k q l h = omega arith

-- of m * 2 ^ j smallest values, from the whole number q nearest the root of m moved up: j + 149 places are 23 or 24 and twice (j + 126) / 2
pub put_together : (m j q : ℕ) → 2 ^ 23 ≤ m → m < 2 ^ 24 → j < 254 → NearestRoot (m * 2 ^ (23 + j % 2)) q → RootPattern (m * 2 ^ j) ((j + 126) / 2 * 8388608 + q)
put_together m j q l h J near =
    let k = (j + 126) / 2 in
    let a = near.low in
    let b = near.high in
    let s : BySquares (m * 2 ^ j * 2 ^ 149) q k = of_nearest (m * 2 ^ j * 2 ^ 149) (m * 2 ^ (23 + j % 2)) q k scales (raised m (j % 2) (omega arith) l h).0 near in
    record {
      least = omega arith;
      most = omega arith;
      squares = subst (λ (z : ℕ). BySquares (m * 2 ^ j * 2 ^ 149) z (((j + 126) / 2 * 8388608 + q) / 8388608 - 1)) (significand_of_lem k q a b) (subst (λ (z : ℕ). BySquares (m * 2 ^ j * 2 ^ 149) q z) (exponent_of_lem k q a b) s);
    }
  where
    places : j + 149 ≡ 23 + j % 2 + ((j + 126) / 2 + (j + 126) / 2)
    places = omega arith

    scales : m * 2 ^ j * 2 ^ 149 ≡ m * 2 ^ (23 + j % 2) * 2 ^ ((j + 126) / 2 + (j + 126) / 2)
    scales =
        mul_assoc m (2 ^ j) (2 ^ 149)
        ∙ ap (λ (x : ℕ). m * x) (sym (pow-add 2 j 149) ∙ ap (λ (x : ℕ). 2 ^ x) places ∙ pow-add 2 (23 + j % 2) ((j + 126) / 2 + (j + 126) / 2))
        ∙ sym (mul_assoc m (2 ^ (23 + j % 2)) (2 ^ ((j + 126) / 2 + (j + 126) / 2)))

-- such a pattern is read as the root
pub read_root : (n r : ℕ) → 0 < n → 8388608 ≤ r → r < 2139095040 → BySquares (n * 2 ^ 149) (8388608 + r % 8388608) (r / 8388608 - 1) → of_bits binary32 r ≡ root_units n
read_root n r N l h s =
    ap (λ (x : ℕ). of_bits binary32 x) (parts r l)
    ∙ made (r / 8388608 - 1) (8388608 + r % 8388608) (omega arith) (omega arith) (omega arith)
    ∙ sym (root_only n (8388608 + r % 8388608) (r / 8388608 - 1) N s)
  where
    parts : (r : ℕ) → 8388608 ≤ r → r ≡ (r / 8388608 - 1) * 8388608 + (8388608 + r % 8388608)
    parts r l = omega arith

-- 2 ^ 24 times as much has 2 ^ 12 times the root
pub lowered : (sq q k : ℕ) → BySquares (sq * 16777216) q (k + 12) → BySquares sq q k
lowered sq q k s =
    record {
      place = less (2 ^ 46 * 2 ^ (k + k)) sq (le_trans (le_of_eq (wide (2 ^ 46))) s.place);
      least = s.least;
      most = s.most;
      above = less ((2 * q - 1) * (2 * q - 1) * 2 ^ (k + k)) (4 * sq) (le_trans (le_of_eq (wide ((2 * q - 1) * (2 * q - 1)))) (le_trans s.above (le_of_eq (sym four))));
      under = less (4 * sq) ((2 * q + 1) * (2 * q + 1) * 2 ^ (k + k)) (le_trans (le_of_eq four) (le_trans s.under (le_of_eq (sym (wide ((2 * q + 1) * (2 * q + 1)))))));
      tie_above = λ e. s.tie_above (sym (wide ((2 * q - 1) * (2 * q - 1))) ∙ ap (λ (z : ℕ). z * 16777216) e ∙ four);
      tie_under = λ e. s.tie_under (sym four ∙ ap (λ (z : ℕ). z * 16777216) e ∙ wide ((2 * q + 1) * (2 * q + 1)));
    }
  where
    less : (a b : ℕ) → a * 16777216 ≤ b * 16777216 → a ≤ b
    less a b h = omega arith

    twice : k + 12 + (k + 12) ≡ k + k + 24
    twice = omega arith

    wide : (a : ℕ) → a * 2 ^ (k + k) * 16777216 ≡ a * 2 ^ (k + 12 + (k + 12))
    wide a = mul_assoc a (2 ^ (k + k)) 16777216 ∙ ap (λ (z : ℕ). a * z) (sym (pow-add 2 (k + k) 24) ∙ ap (λ (z : ℕ). 2 ^ z) (sym twice))

    four : 4 * sq * 16777216 ≡ 4 * (sq * 16777216)
    four = mul_assoc 4 sq 16777216
