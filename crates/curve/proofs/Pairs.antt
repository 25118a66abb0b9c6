-- The steepest slope over the pairs that are passed, by what is left of the table. Assumes nothing.
use mathlib.Core.Path.{◌≡◌, ap, ◌∙◌}
use mathlib.Core.List.{List}
use Prim.Native.Nat.{ℕ, suc, ◌+◌, ◌-◌, ◌≤◌, ◌<◌}
use native.Mathlib.Nat.{sub_self, add-zero}
use native.Mathlib.Omega.{arith}
use lib.ListN.{length, take, drop, get_or}
use lib.Seq.{get_or-take}
use lib.Ieee.{Float, nan}
use Rattle.std.proofs.Math.ListN.{length-take}
use Rattle.floats.specs.F32.{◌⊖◌, 0f}
use Rattle.floats.specs.Sign.{abs_of}
use Rattle.lanes.specs.Lane.{max_of}
use Rattle.curve.specs.Curve.{slope_of, steepest_to}

abbrev pub read : List Float → List Float
read table = take 1025 table

pub read_whole : (table : List Float) → 1024 < length table → length (read table) ≡ 1025
read_whole table h = omega (arith, length-take 1025 table)

-- `rest` is the end of the table, and s the steepest slope before it
pub record Passed (table rest : List Float) (s : Float) : Type 0 where
  pub some : 1 ≤ length rest
  pub most : length rest ≤ length (read table)
  pub there : rest ≡ drop (length (read table) - length rest) (read table)
  pub so : s ≡ steepest_to table (length (read table) - length rest)

pub start : (table rest : List Float) → 1024 < length table → rest ≡ read table → Passed table rest 0f
unfolding steepest_to
start table rest h e =
    let whole = read_whole table h in
    rw e
    (record {
      some = omega (arith, whole);
      most = omega arith;
      there = rw (sub_self (length (read table)));
      so = rw (sub_self (length (read table)));
    })

-- a pair w more, as a window of `size`, which is 2, has it
pub more : (table rest rest' w : List Float) (size : ℕ) (s slope : Float) → 1024 < length table → size ≡ 2 → Passed table rest s
    → (length rest' + 1 ≡ length rest)
    × (rest' ≡ drop (length (read table) - length rest') (read table))
    × (size ≤ length rest)
    × ((k : ℕ) (d : Float) → k < size → get_or w k d ≡ get_or (read table) (length (read table) - length rest + k) d)
    → slope ≡ abs_of (get_or w 1 nan ⊖ get_or w 0 nan)
    → Passed table rest' (max_of s slope)
unfolding steepest_to slope_of
more table rest rest' w size s slope h two p q e =
    record { some = omega (arith, q.0, q.2); most = omega (arith, q.0, p.most); there = q.1; so = rw (p.so, e, low, high) (ap (steepest_to table) next) }
  where
    n : ℕ
    n = length (read table) - length rest

    next : suc n ≡ length (read table) - length rest'
    next = omega (arith, q.0, p.most)

    within : n + 1 < 1025
    within = omega (arith, read_whole table h, q.2, p.most)

    low : get_or w 0 nan ≡ get_or table n nan
    low = q.3 0 nan (omega arith) ∙ ap (λ (k : ℕ). get_or (read table) k nan) (add-zero n) ∙ get_or-take 1025 table n nan (omega (arith, within))

    high : get_or w 1 nan ≡ get_or table (n + 1) nan
    high = q.3 1 nan (omega arith) ∙ get_or-take 1025 table (n + 1) nan within

-- all pairs: less than two numbers are left
pub all_passed : (table rest : List Float) (s : Float) → 1024 < length table → Passed table rest s → length rest < 2 → s ≡ steepest_to table 1024
all_passed table rest s h p l = p.so ∙ ap (steepest_to table) last
  where
    last : length (read table) - length rest ≡ 1024
    last = omega (arith, read_whole table h, p.some)
