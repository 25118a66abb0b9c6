-- The laws of a lane's state in its cells: what the stores of its FM carry, its filter pairs and `last` make of any buffer.
-- Assumes nothing.
use mathlib.Core.List.{List}
use Prim.Native.Nat.{ℕ, ◌+◌, ◌*◌, ◌<◌, ◌≤◌}
use native.Mathlib.Omega.{arith}
use lib.ListN.{length, set, length-set}
use lib.Ieee.{Float, nan}
use Rattle.grid.specs.Functions.{upd}
use Rattle.grid.specs.Cells.{columns}
use Rattle.grid.specs.Lanes.{Each}
use Rattle.grid.proofs.Index.{row_in}
use Rattle.grid.proofs.EachLaws.{each_then, each_set}
use Rattle.wave.specs.declared.filters.Svf.{Svf}
use Rattle.shaper.specs.Lane.{put_pairs, put_carry}

-- a lane's cell of a row that is there
pub cell_in : (row rows n lane have : ℕ) → row < rows → lane < n → rows * n ≤ have → row * n + lane < have
cell_in row rows n lane have less inside held = omega (arith, row_in row rows lane n less inside, held)

-- `last`
pub last_put : (n lane : ℕ) (xs : List Float) (v : Float) → lane < n → n ≤ length xs
    → Each n lane (lane + 1) (λ _ f. upd f 0 v) (columns nan n xs) (columns nan n (set xs (0 * n + lane) v))
last_put n lane xs v inside h = each_set nan n lane xs 0 v inside (cell_in 0 1 n lane (length xs) (omega arith) inside (omega arith))

-- ---- the FM carry: two stores

abbrev pub carry_stored : ℕ → ℕ → List Float → Float → Float → List Float
carry_stored n lane xs fm0 fm1 = set (set xs (0 * n + lane) fm0) (1 * n + lane) fm1

pub carry_put : (n lane : ℕ) (xs : List Float) (fm0 fm1 : Float) → lane < n → 2 * n ≤ length xs
    → Each n lane (lane + 1) (λ _. put_carry fm0 fm1) (columns nan n xs) (columns nan n (carry_stored n lane xs fm0 fm1))
unfolding put_carry
carry_put n lane xs fm0 fm1 inside h =
    let at : (row : ℕ) → row < 2 → row * n + lane < length xs = λ row less. cell_in row 2 n lane (length xs) less inside h in
    each_then (each_set nan n lane xs 0 fm0 inside (at 0 (omega arith)))
    (each_set nan n lane _ 1 fm1 inside (simp length-set (at 1 (omega arith))))

-- ---- the filter pairs: four stores

abbrev pub pairs_stored : ℕ → ℕ → List Float → Svf → Svf → List Float
pairs_stored n lane xs p q =
    set (set (set (set xs (0 * n + lane) p.ic1) (1 * n + lane) p.ic2) (2 * n + lane) q.ic1) (3 * n + lane) q.ic2

pub pairs_put : (n lane : ℕ) (xs : List Float) (p q : Svf) → lane < n → 4 * n ≤ length xs
    → Each n lane (lane + 1) (λ _. put_pairs p q) (columns nan n xs) (columns nan n (pairs_stored n lane xs p q))
unfolding put_pairs
pairs_put n lane xs p q inside h =
    let at : (row : ℕ) → row < 4 → row * n + lane < length xs = λ row less. cell_in row 4 n lane (length xs) less inside h in
    each_then
    (each_then
    (each_then (each_set nan n lane xs 0 p.ic1 inside (at 0 (omega arith)))
    (each_set nan n lane _ 1 p.ic2 inside (simp length-set (at 1 (omega arith)))))
    (each_set nan n lane _ 2 q.ic1 inside (simp length-set (at 2 (omega arith)))))
    (each_set nan n lane _ 3 q.ic2 inside (simp length-set (at 3 (omega arith))))
