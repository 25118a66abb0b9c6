-- Only a table's first 1,025 entries count, those that line 7 asks for. Assumes nothing.
use mathlib.Core.Path.{◌≡◌, refl}
use mathlib.Core.List.{List}
use Prim.Native.Nat.{ℕ, zero, suc, ◌+◌, ◌≤◌}
use native.Mathlib.Omega.{arith}
use lib.ListN.{take}
use lib.Seq.{get_or-take}
use lib.Ieee.{Float, nan}
use Rattle.floats.specs.F32.{◌⊗◌, 0f, 1f}
use Rattle.floats.specs.Steps.{◌>>=◌}
use Rattle.lanes.specs.Maths.{clamp_of}
use Rattle.curve.specs.Curve.{resolution, segment_of, value_of, slope_of, steepest_to, steepest_of}

pub value_asked : (table : List Float) (x : Float) → value_of (take 1025 table) x ≡ value_of table x
unfolding value_of ◌>>=◌
value_asked table x =
    let i : ℕ = segment_of (clamp_of x 0f 1f ⊗ resolution) in
    rw (get_or-take 1025 table i nan (omega arith), get_or-take 1025 table (i + 1) nan (omega arith))

fold_asked : (table : List Float) (n : ℕ) → n ≤ 1024 → steepest_to (take 1025 table) n ≡ steepest_to table n
unfolding steepest_to slope_of
fold_asked table zero h = refl
fold_asked table (suc n) h =
    rw (fold_asked table n (omega arith), get_or-take 1025 table (n + 1) nan (omega arith), get_or-take 1025 table n nan (omega arith))

pub steepest_asked : (table : List Float) → steepest_of (take 1025 table) ≡ steepest_of table
unfolding steepest_of
steepest_asked table = rw (fold_asked table 1024 (omega arith))
