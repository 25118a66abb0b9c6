-- `floats::small_root_bits` meets its contract. With z leading zeros of 32, b has 32 - z digits, and moved up by z - 8 places it has 24.
use mathlib.Core.Path.{◌≡◌, sym, ap, ◌∙◌, subst}
use Prim.Native.Nat.{ℕ, suc, ◌+◌, ◌-◌, ◌*◌, ◌/◌, ◌%◌, ◌^◌, ◌≤◌, ◌<◌}
use native.Mathlib.Nat.{le_trans, le_of_eq, lt_of_lt_of_le, lt_of_not-le, not-le_of_lt, mul-le-mul_right, mul-lt-mul_of_pos_right, mul_assoc, mul_right_comm, mod-eq_of_lt}
use native.Mathlib.Omega.{arith}
use lib.Count.{count_leading_zeros, leading_top}
use lib.Pow.{pow-add, pow_pos, pow_mono}
use lib.Ieee.{binary32, of_bits}
use Rattle.floats.specs.Promises.{RootPattern}
use Rattle.floats.specs.Sqrt.{root_units, BySquares}
use Rattle.floats.proofs.RootPatterns.{read_root, lowered}
use Rattle.floats.proofs.root.small_root_bits.Goals as goal
use Rattle.floats.proofs.root.small_root_bits.Goals.{Start}

abbrev up : ℕ → ℕ
up b = count_leading_zeros 32 b - 8

module _ (b : ℕ) (P : 0 < b) (S : b < 2 ^ 23) where
  -- 2 ^ i ≤ b < 2 ^ (i + 1), and i + up b is 23
  top : (i : ℕ) × (count_leading_zeros 32 b + suc i ≡ 32) × (2 ^ i ≤ b) × (b < 2 ^ suc i)
  top = leading_top 32 b P (omega arith)

  short : top.0 < 23
  short = lt_of_not-le (λ (g : 23 ≤ top.0). not-le_of_lt S (le_trans (pow_mono g) top.2))

  zeros : (8 ≤ count_leading_zeros 32 b) × (up b ≤ 23)
  zeros = omega (arith, top.1, short)

  sums : top.0 + up b ≡ 23
  sums = omega (arith, top.1, short)

  low : 2 ^ 23 ≤ b * 2 ^ up b
  low = le_trans (le_of_eq (ap (λ (x : ℕ). 2 ^ x) (sym sums) ∙ pow-add 2 top.0 (up b))) (mul-le-mul_right (2 ^ up b) top.2)

  high : b * 2 ^ up b < 2 ^ 24
  high = lt_of_lt_of_le (mul-lt-mul_of_pos_right top.3 (pow_pos (up b))) (le_of_eq (sym (pow-add 2 (suc top.0) (up b)) ∙ ap (λ (x : ℕ). 2 ^ x) one_more))
    where
      one_more : suc top.0 + up b ≡ 24
      one_more = omega (arith, sums)

  whole : (b * 2 ^ up b) % 2 ^ 32 ≡ b * 2 ^ up b
  whole = mod-eq_of_lt (omega (arith, high))

  product : b * 2 ^ up b * 2 ^ (24 - up b) ≡ b * 16777216
  product = mul_assoc b (2 ^ up b) (2 ^ (24 - up b)) ∙ ap (λ (x : ℕ). b * x) (sym (pow-add 2 (up b) (24 - up b)) ∙ ap (λ (x : ℕ). 2 ^ x) all)
    where
      all : up b + (24 - up b) ≡ 24
      all = omega (arith, zeros)

  root : (r : ℕ) → RootPattern ((b * 2 ^ up b) % 2 ^ 32 * 2 ^ (24 - up b)) r → (r - 100663296 < 2139095040) × (of_bits binary32 (r - 100663296) ≡ root_units b)
  root r p =
      let l = p.least in
      let s : BySquares (b * 2 ^ 149 * 16777216) (8388608 + r % 8388608) (r / 8388608 - 1) =
      subst (λ (n : ℕ). BySquares n (8388608 + r % 8388608) (r / 8388608 - 1)) (ap (λ (n : ℕ). n * 2 ^ (24 - up b) * 2 ^ 149) whole ∙ ap (λ (n : ℕ). n * 2 ^ 149) product ∙ mul_right_comm b 16777216 (2 ^ 149)) p.squares in
      let t : BySquares (b * 2 ^ 149) (8388608 + (r - 100663296) % 8388608) ((r - 100663296) / 8388608 - 1) =
      subst (λ (q : ℕ). BySquares (b * 2 ^ 149) (8388608 + q) ((r - 100663296) / 8388608 - 1)) (same r l)
      (lowered (b * 2 ^ 149) (8388608 + r % 8388608) ((r - 100663296) / 8388608 - 1) (subst (λ (k : ℕ). BySquares (b * 2 ^ 149 * 16777216) (8388608 + r % 8388608) k) (fewer r l) s)) in
      (omega (arith, p.most), read_root b (r - 100663296) P (omega arith) (omega (arith, p.most)) t)
    where
      same : (r : ℕ) → 64 * 8388608 ≤ r → r % 8388608 ≡ (r - 100663296) % 8388608
      same r l = omega arith

      fewer : (r : ℕ) → 64 * 8388608 ≤ r → r / 8388608 - 1 ≡ (r - 100663296) / 8388608 - 1 + 12
      fewer r l = omega arith

pub overflow_sub-up : goal.overflow_sub-up
overflow_sub-up c = (zeros c.args.b c.requires.0 c.requires.1).0

pub root_bits-requires : goal.root_bits-requires
root_bits-requires c =
    let b = c.args.b in
    rw (whole b c.requires.0 c.requires.1) (omega (arith, low b c.requires.0 c.requires.1, high b c.requires.0 c.requires.1))

pub returns : goal.returns
returns c = let s = (goal.at.returns c).Start in root s.args.b s.requires.0 s.requires.1 c.root_bits.result c.root_bits.ensures
