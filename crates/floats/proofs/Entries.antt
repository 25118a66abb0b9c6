-- The table of `exp2`: its rule at each of the 257 entries (`rule`), which no other number meets (`only`), and the entries' range (`range`). A rule is one test that
-- antt computes over the whole table. Assumes nothing.
use mathlib.Core.Path.{◌≡◌}
use mathlib.Core.Bool.{Bool, ◌&&◌}
use Prim.Native.Nat.{ℕ, ◌+◌, ◌/◌, ◌^◌, ◌≤◌, ◌<◌}
use native.Mathlib.Nat.{le_antisymm, lt_of_le_of_lt, lt_of_not-le, not-le_of_lt, pow-le-pow_left}
use native.Mathlib.Omega.{arith}
use lib.Dec.{T, leb, ltb, leb→le, ltb→lt}
use lib.Ieee.Fits.{and_l, and_r}
use Rattle.floats.specs.Exp2.{entries, entry_of, Entry}
use Rattle.floats.proofs.Below.{below, each}

-- ---- the rule
low : ℕ → Bool
low k = leb (entry_of k ^ 256) (2 ^ (5888 + k))

high : ℕ → Bool
high k = ltb (2 ^ (5888 + k)) ((entry_of k + 1) ^ 256)

table_rule : T (below 257 (λ (k : ℕ). low k && high k))
unfolding low high entry_of entries
table_rule = tt

pub rule : (k : ℕ) → k < 257 → Entry k (entry_of k)
unfolding low high
rule k h =
    let t = each 257 (λ (k : ℕ). low k && high k) table_rule k h in
    record { low = leb→le (entry_of k ^ 256) (2 ^ (5888 + k)) (and_l (low k) (high k) t); high = ltb→lt (2 ^ (5888 + k)) ((entry_of k + 1) ^ 256) (and_r (low k) (high k) t) }

-- roots of 256th powers compare as the powers do
pub only : (k e : ℕ) → k < 257 → Entry k e → e ≡ entry_of k
only k e h r =
    let g = rule k h in
    le_antisymm (not_above e (entry_of k) (lt_of_le_of_lt r.low g.high)) (not_above (entry_of k) e (lt_of_le_of_lt g.low r.high))
  where
    not_above : (a b : ℕ) → a ^ 256 < (b + 1) ^ 256 → a ≤ b
    not_above a b l = let h = lt_of_not-le (λ (n : b + 1 ≤ a). not-le_of_lt l (pow-le-pow_left n 256)) in omega arith

-- ---- the range: 24 digits, but the last entry, which is 2 ^ 24
long : ℕ → Bool
long k = leb 8388608 (entry_of k)

short : ℕ → Bool
short k = leb (entry_of k) (16777215 + k / 256)

table_range : T (below 257 (λ (k : ℕ). long k && short k))
unfolding long short entry_of entries
table_range = tt

pub range : (k : ℕ) → k < 257 → (8388608 ≤ entry_of k) × (entry_of k ≤ 16777215 + k / 256)
unfolding long short
range k h =
    let t = each 257 (λ (k : ℕ). long k && short k) table_range k h in
    (leb→le 8388608 (entry_of k) (and_l (long k) (short k) t), leb→le (entry_of k) (16777215 + k / 256) (and_r (long k) (short k) t))
