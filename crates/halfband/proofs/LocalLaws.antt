-- The laws of a stage's cells in a local array: a section's stores, and how the array is loaded and stored. Assumes nothing.
use mathlib.Core.Path.{◌≡◌, refl, sym, ◌∙◌, ap}
use mathlib.Core.List.{List}
use Prim.Native.Nat.{ℕ, ◌+◌, ◌*◌, ◌<◌}
use native.Mathlib.Decide.{ℕ_discrete}
use native.Mathlib.Omega.{arith}
use lib.ListN.{length, get_or, set, length-set}
use lib.Seq.{get_or-set_same, get_or-set_other}
use lib.Ieee.{Float, nan}
use Rattle.grid.specs.Functions.{upd}
use Rattle.grid.proofs.Index.{row_in}
use Rattle.grid.proofs.FunctionLaws.{upd_by, upd_same, upd_upd, upd_self, upto_none, upto_more}
use Rattle.grid.proofs.CellLaws.{blk_set, blk_set_other}
use Rattle.grid.proofs.EachLaws.{each_one, one_lane, one_others}
use Rattle.halfband.specs.Floats.{floats}
use Rattle.halfband.specs.Promises.{cells_of, Stepped, Room, Stored, blocks_of}

pub cells_set : (z : List Float) (i : ℕ) (v : Float) → i < length z → cells_of (set z i v) ≡ upd (cells_of z) i v
unfolding cells_of
cells_set z i v h = sym (upd_by _ _ i v (get_or-set_same z i v nan h) (λ s ne. get_or-set_other z i s v nan ne))

-- ---- a section

module _ (c input : Float) (i : ℕ) (z : List Float) (size : length z ≡ 24) (hi : i < 12) where
  abbrev said : Float
  said = floats.section c (get_or z (2 * i) nan) (get_or z (2 * i + 1) nan) input

  pub stepped : Stepped c i z (set (set z (2 * i) input) (2 * i + 1) said) input said
  unfolding cells_of
  stepped =
      record {
        size = rw (length-set, length-set) size;
        sample = refl;
        cells =
            cells_set (set z (2 * i) input) (2 * i + 1) said (rw length-set (omega arith))
            ∙ rw (cells_set z (2 * i) input (omega arith));
      }

-- ---- loading and storing

-- where cell i of block b lies
pub cell_in : (size b i n l : ℕ) → Room size b n l → i < 24 → (24 * b + i) * n + l < size
cell_in size b i n l room h = omega (arith, row_in (24 * b + i) 72 l n (omega arith) room.lane)

-- one more of an array's elements
pub filled_more : (f : ℕ → Float) (k : ℕ) (xs : List Float) (v : Float) → k < length xs → v ≡ f k → ((i : ℕ) → i < k → get_or xs i nan ≡ f i)
    → (i : ℕ) → i < k + 1 → get_or (set xs k v) i nan ≡ f i
filled_more f k xs v h e was i hi = go (ℕ_discrete i k)
  where
    go : Dec (i ≡ k) → get_or (set xs k v) i nan ≡ f i
    go (yes p) = rw p (get_or-set_same xs k v nan h ∙ e)
    go (no ne) = get_or-set_other xs k i v nan ne ∙ was i (omega arith)

module _ (b n l : ℕ) (z st : List Float) where
  pub stored_none : Stored b n l 0 z st st
  stored_none =
      record { size = refl; lanes = each_one (sym (rw upto_none (upd_self _ _))) (λ m hm ne. refl) }

  pub stored_more : (k : ℕ) (st' : List Float) → l < n → k < 24 → (24 * b + k) * n + l < length st' → Stored b n l k z st st'
      → Stored b n l (k + 1) z st (set st' ((24 * b + k) * n + l) (get_or z k nan))
  unfolding cells_of
  stored_more k st' hl hk at was =
      record {
        size = rw length-set was.size;
        lanes =
            each_one
            (blk_set nan 24 n l st' b k _ hl hk at
            ∙ rw (one_lane was.lanes hl, upd_same, upd_upd)
            (ap (upd (blocks_of n st l) b) (upto_more k (cells_of z) _)))
            (λ m hm ne. blk_set_other nan 24 n m st' l (24 * b + k) _ hm hl ne ∙ one_others was.lanes m hm ne);
      }
