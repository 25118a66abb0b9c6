-- The laws of a lane's numbers in the block's host rows. Assumes nothing.
use mathlib.Core.Path.{◌≡◌, refl, ◌∙◌}
use mathlib.Core.Bool.{not}
use mathlib.Core.Option.{Option, some, none}
use mathlib.Core.List.{List}
use Prim.Native.Nat.{ℕ, ◌+◌, ◌*◌, ◌≤◌, ◌<◌}
use native.Mathlib.Decide.{dec_lt, ℕ_discrete}
use native.Mathlib.Omega.{arith}
use borrow.Author.Tests.{eq-eqb, ne_eqb, lt-ltb, le-ltb}
use lib.Dec.{eqb}
use lib.ListN.{length, get_or}
use lib.Ieee.{Float, nan}
use Rattle.grid.specs.Cells.{column}
use Rattle.grid.proofs.CellLaws.{col_at, get_or-column}
use Rattle.grid.proofs.Index.{row_in}
use Rattle.std.specs.Prelude.{is_some}
use Rattle.controls.specs.Controls.{lent_of, is_given, heard_at, next_row}

-- ---- absent and given

pub lent_none : (n lane frames : ℕ) (xs : List Float) → length xs ≡ 0 → lent_of n lane frames xs ≡ none
unfolding lent_of
lent_none n lane frames xs e = rw (eq-eqb (length xs) 0 e)

pub lent_some : (n lane frames : ℕ) (xs : List Float) → (length xs ≡ 0 → ⊥) → lent_of n lane frames xs ≡ some (column nan n lane frames xs)
unfolding lent_of
lent_some n lane frames xs ne = rw (ne_eqb (length xs) 0 ne)

pub given_by_length : (n lane frames : ℕ) (xs : List Float) → is_given (lent_of n lane frames xs) ≡ not (eqb (length xs) 0)
given_by_length n lane frames xs = go (ℕ_discrete (length xs) 0)
  where
    go : Dec (length xs ≡ 0) → is_given (lent_of n lane frames xs) ≡ not (eqb (length xs) 0)
    go (yes e) = rw (lent_none n lane frames xs e, eq-eqb (length xs) 0 e)
    go (no ne) = rw (lent_some n lane frames xs ne, ne_eqb (length xs) 0 ne)

-- a slot hears something exactly where its source is given
pub heard_where_given : (mode factor frames : ℕ) (source : Option (List Float)) (last : Float) (host sub : ℕ)
    → is_some (heard_at mode factor frames source last host sub) ≡ is_given source
unfolding heard_at
heard_where_given mode factor frames none last host sub = refl
heard_where_given mode factor frames (some xs) last host sub = refl

-- ---- rows

-- a row of the block lies in a slice that holds the block
pub row_held : (frames n lane row len : ℕ) → lane < n → row < frames → frames * n ≤ len → row * n + lane < len
row_held frames n lane row len hl hr h = omega (arith, row_in row frames lane n hr hl)

-- the number that the program reads there
pub row_read : (frames n lane row : ℕ) (xs : List Float) → row < frames → get_or (column nan n lane frames xs) row nan ≡ get_or xs (row * n + lane) nan
row_read frames n lane row xs h = get_or-column nan n lane frames xs row h ∙ col_at nan n lane xs row

-- the next row is one of the block
pub next_in : (frames host : ℕ) → host < frames → next_row frames host < frames
next_in frames host h = go (dec_lt (host + 1) frames)
  where
    go : Dec (host + 1 < frames) → next_row frames host < frames
    go (yes k) = rw (lt-ltb (host + 1) frames k) k
    go (no k) = rw (le-ltb (host + 1) frames (omega arith)) (omega arith)
