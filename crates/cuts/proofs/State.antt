-- A lane's state as a list of 79 cells, and as the voice and the decimator cells that its columns hold. Assumes nothing.
use mathlib.Core.Path.{◌≡◌, refl, sym, ◌∙◌, ap, fun_ext}
use mathlib.Core.List.{List, ◌∷◌, ◌++◌}
use Prim.Native.Nat.{ℕ, ◌+◌, ◌*◌, ◌/◌, ◌%◌, ◌≤◌, ◌<◌}
use native.Mathlib.Decide.{dec_lt}
use native.Mathlib.Omega.{arith}
use lib.ListN.{get_or, drop}
use lib.Ieee.{Float, nan}
use Rattle.grid.specs.Functions.{table, blocks}
use Rattle.grid.specs.Cells.{column, blk}
use Rattle.grid.proofs.TableLaws.{get_or-table, same_table, blocks_in, blocks_past}
use Rattle.grid.proofs.CellLaws.{col_blk}
use Rattle.render.specs.declared.state.Voice.{Voice}
use Rattle.share.specs.Share.{Buffers, Columns, columns_of, enters}
use Rattle.cuts.specs.Cuts.{state_of}

-- the list of a voice and of the cells of three blocks
unfoldable pub listed : Voice → (ℕ → ℕ → Float) → List Float
listed v z =
    v.pairs0.ic1 ∷ v.pairs0.ic2 ∷ v.pairs1.ic1 ∷ v.pairs1.ic2 ∷ v.fm0 ∷ v.fm1 ∷ v.last ∷ table 72 (λ r. z (r / 24) (r % 24))

-- and back
unfoldable pub voice_in : List Float → Voice
voice_in s =
    record {
      pairs0 = record { ic1 = get_or s 0 nan; ic2 = get_or s 1 nan };
      pairs1 = record { ic1 = get_or s 2 nan; ic2 = get_or s 3 nan };
      fm0 = get_or s 4 nan;
      fm1 = get_or s 5 nan;
      last = get_or s 6 nan;
    }

unfoldable pub cells_in : List Float → ℕ → ℕ → Float
cells_in s = blocks nan 24 (λ r. get_or (drop 7 s) r nan)

-- a block has no cell past its 24
abbrev pub Ends : (ℕ → ℕ → Float) → Type 0
Ends z = (c i : ℕ) → 24 ≤ i → z c i ≡ nan

pub cells_end : (s : List Float) → Ends (cells_in s)
unfolding cells_in
cells_end s c i h = blocks_past nan 24 _ c i h

pub voice_listed : (v : Voice) (z : ℕ → ℕ → Float) → voice_in (listed v z) ≡ v
unfolding voice_in listed
voice_listed v z = refl

pub cells_listed : (v : Voice) (z : ℕ → ℕ → Float) → Ends z → (c : ℕ) → c < 3 → cells_in (listed v z) c ≡ z c
unfolding cells_in listed
cells_listed v z ends c h = fun_ext (λ i. go i (dec_lt i 24))
  where
    cell : ℕ → Float
    cell r = z (r / 24) (r % 24)

    go : (i : ℕ) → Dec (i < 24) → blocks nan 24 (λ r. get_or (table 72 (λ r. z (r / 24) (r % 24))) r nan) c i ≡ z c i
    go i (yes l) =
        let row : (24 * c + i) / 24 ≡ c = omega arith in
        let at : (24 * c + i) % 24 ≡ i = omega arith in
        blocks_in nan 24 _ c i l ∙ get_or-table 72 _ (24 * c + i) nan (omega arith) ∙ rw (row, at)
    go i (no l) = blocks_past nan 24 _ c i (omega arith) ∙ sym (ends c i (omega arith))

-- the cells of blocks 0 to 2 say the list
pub same_listed : (v w : Voice) (y z : ℕ → ℕ → Float) → v ≡ w → ((c : ℕ) → c < 3 → y c ≡ z c) → listed v y ≡ listed w z
unfolding listed
same_listed v w y z e h =
    rw (
      e,
      same_table 72 (λ r. y (r / 24) (r % 24)) (λ r. z (r / 24) (r % 24))
          (λ r l. ap (λ (g : ℕ → Float). g (r % 24)) (h (r / 24) (omega arith))),
    )

pub listed_again : (v : Voice) (z : ℕ → ℕ → Float) → Ends z → listed (voice_in (listed v z)) (cells_in (listed v z)) ≡ listed v z
listed_again v z ends = same_listed _ _ _ _ (voice_listed v z) (cells_listed v z ends)

-- ---- lent buffers

-- the list of a lane's columns
abbrev pub list_of : Columns → List Float
list_of v = listed (enters v) v.dec

module _ (n lane : ℕ) (b : Buffers) where
  pub columns_end : Ends (columns_of n b lane).dec
  unfolding columns_of blk
  columns_end c i h = blocks_past nan 24 _ c i h

  pub state_listed : state_of n lane b ≡ list_of (columns_of n b lane)
  unfolding columns_of column table listed
  state_listed =
      ap (λ (l : List Float). column nan n lane 4 b.pairs ++ column nan n lane 2 b.fm ++ column nan n lane 1 b.last ++ l)
      (same_table 72 _ _ (λ r h. sym (col_blk nan 24 n lane b.dec r (omega arith))))
