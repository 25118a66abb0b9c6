-- The laws of lanes' columns: what a store changes, columns as lists and in blocks, and that the columns say the buffer.
-- Assumes nothing.
use mathlib.Core.Path.{◌≡◌, refl, sym, ◌∙◌, ap, fun_ext}
use mathlib.Core.List.{List}
use Prim.Native.Nat.{ℕ, ◌+◌, ◌*◌, ◌/◌, ◌%◌, ◌≤◌, ◌<◌}
use native.Mathlib.Nat.{div-add-mod', mod-lt}
use lib.ListN.{length, get_or, set, get_or-eq_default}
use lib.Seq.{get_or-set_same, get_or-set_other, ext_get_or}
use Rattle.grid.specs.Functions.{upd, blocks}
use Rattle.grid.specs.Cells.{col, column, blk}
use Rattle.grid.proofs.Index.{same_row, same_lane}
use Rattle.grid.proofs.FunctionLaws.{upd_by}
use Rattle.grid.proofs.TableLaws.{length_table, get_or-table, blocks_in, blocks_at, blocks_upd, blocks_inj}

module _ {A : Type 0} (d : A) where
  -- ---- a column

  -- the number that the program reads
  pub col_at : (n l : ℕ) (xs : List A) (r : ℕ) → col d n l xs r ≡ get_or xs (r * n + l) d
  unfolding col
  col_at n l xs r = refl

  -- a row past the buffer's end
  pub col_past : (n l : ℕ) (xs : List A) (r : ℕ) → length xs ≤ r * n + l → col d n l xs r ≡ d
  unfolding col
  col_past n l xs r h = get_or-eq_default xs d h

  -- a store leaves the lane's other rows, even where it would lie past the buffer's end
  pub row_set_other : (n l : ℕ) (xs : List A) (r : ℕ) (v : A) (s : ℕ) → l < n → (s ≡ r → ⊥)
      → col d n l (set xs (r * n + l) v) s ≡ col d n l xs s
  unfolding col
  row_set_other n l xs r v s hl ne = get_or-set_other xs (r * n + l) (s * n + l) v d (λ e. ne (same_row s r l l n hl hl e))

  -- a store in the lane
  pub col_set : (n l : ℕ) (xs : List A) (r : ℕ) (v : A) → l < n → r * n + l < length xs
      → col d n l (set xs (r * n + l) v) ≡ upd (col d n l xs) r v
  unfolding col
  col_set n l xs r v hl h = sym (upd_by _ _ r v (get_or-set_same xs (r * n + l) v d h) (λ s ne. row_set_other n l xs r v s hl ne))

  -- a store in another lane
  pub col_set_other : (n l : ℕ) (xs : List A) (m r : ℕ) (v : A) → l < n → m < n → (l ≡ m → ⊥)
      → col d n l (set xs (r * n + m) v) ≡ col d n l xs
  unfolding col
  col_set_other n l xs m r v hl hm ne =
      fun_ext (λ s. get_or-set_other xs (r * n + m) (s * n + l) v d (λ e. ne (same_lane s r l m n hl hm e)))

  -- ---- a column as a list

  pub length_column : (n l k : ℕ) (xs : List A) → length (column d n l k xs) ≡ k
  unfolding column
  length_column n l k xs = length_table k _

  -- its number r is the column's in row r
  pub get_or-column : (n l k : ℕ) (xs : List A) (r : ℕ) → r < k → get_or (column d n l k xs) r d ≡ col d n l xs r
  unfolding column
  get_or-column n l k xs r h = get_or-table k _ r d h

  -- ---- a column in blocks of h rows

  pub blk_at : (h n l : ℕ) (xs : List A) (b i : ℕ) → i < h → blk d h n l xs b i ≡ get_or xs ((h * b + i) * n + l) d
  unfolding col blk
  blk_at h n l xs b i hi = blocks_in d h _ b i hi

  -- a store in the lane
  pub blk_set : (h n l : ℕ) (xs : List A) (b i : ℕ) (v : A) → l < n → i < h → (h * b + i) * n + l < length xs
      → blk d h n l (set xs ((h * b + i) * n + l) v) ≡ upd (blk d h n l xs) b (upd (blk d h n l xs b) i v)
  unfolding blk
  blk_set h n l xs b i v hl hi at = ap (blocks d h) (col_set n l xs (h * b + i) v hl at) ∙ blocks_upd d h _ b i v hi

  -- a store in another lane
  pub blk_set_other : (h n l : ℕ) (xs : List A) (m r : ℕ) (v : A) → l < n → m < n → (l ≡ m → ⊥)
      → blk d h n l (set xs (r * n + m) v) ≡ blk d h n l xs
  unfolding blk
  blk_set_other h n l xs m r v hl hm ne = ap (blocks d h) (col_set_other n l xs m r v hl hm ne)

  -- each row stands in a block
  pub col_blk : (h n l : ℕ) (xs : List A) (r : ℕ) → 0 < h → blk d h n l xs (r / h) (r % h) ≡ col d n l xs r
  unfolding blk
  col_blk h n l xs r hh = blocks_at d h _ r hh

  -- and the other way round
  pub col_of_blk : (h n l : ℕ) (xs ys : List A) → 0 < h → blk d h n l xs ≡ blk d h n l ys → col d n l xs ≡ col d n l ys
  unfolding blk
  col_of_blk h n l xs ys hh e = blocks_inj d h _ _ hh e

  -- ---- the columns say the buffer

  -- buffers of one length are equal with equal cells,
  pub same_cells : (n : ℕ) (xs ys : List A) → 0 < n → length xs ≡ length ys
      → ((r l : ℕ) → l < n → col d n l xs r ≡ col d n l ys r) → xs ≡ ys
  unfolding col
  same_cells n xs ys hn size h =
      ext_get_or d xs ys size (λ i k. rw (div-add-mod' i n) at (h (i / n) (i % n) (mod-lt i hn)))

  -- with equal columns of every lane,
  pub same_columns : (n : ℕ) (xs ys : List A) → 0 < n → length xs ≡ length ys
      → ((l : ℕ) → l < n → col d n l xs ≡ col d n l ys) → xs ≡ ys
  same_columns n xs ys hn size h = same_cells n xs ys hn size (λ r l hl. ap (λ (f : ℕ → A). f r) (h l hl))

  -- and with equal blocks of every lane
  pub same_blocks : (h n : ℕ) (xs ys : List A) → 0 < h → 0 < n → length xs ≡ length ys
      → ((l : ℕ) → l < n → blk d h n l xs ≡ blk d h n l ys) → xs ≡ ys
  same_blocks h n xs ys hh hn size e =
      same_columns n xs ys hn size (λ l hl. col_of_blk h n l xs ys hh (e l hl))
