-- The laws of functions whose values are listed (`table`) or taken in blocks (`blocks`). Assumes nothing.
use mathlib.Core.Path.{◌≡◌, refl, sym, ◌∙◌, ap, fun_ext}
use Prim.Native.Nat.{ℕ, zero, suc, ◌+◌, ◌*◌, ◌/◌, ◌%◌, ◌≤◌, ◌<◌}
use native.Mathlib.Nat.{mul_comm, div-add-mod, mod-lt}
use native.Mathlib.Decide.{dec_lt}
use native.Mathlib.Omega.{arith}
use lib.ListN.{length, get_or}
use borrow.Author.Tests.{lt-ltb, le-ltb}
use Rattle.grid.specs.Functions.{upd, table, blocks}
use Rattle.grid.proofs.Index.{same_row}
use Rattle.grid.proofs.FunctionLaws.{upd_same, upd_other, upd_by}

module _ {A : Type 0} where
  -- ---- the first k values

  pub length_table : (k : ℕ) (f : ℕ → A) → length (table k f) ≡ k
  unfolding table
  length_table zero f = refl
  length_table (suc k) f = ap suc (length_table k (λ i. f (suc i)))

  pub get_or-table : (k : ℕ) (f : ℕ → A) (i : ℕ) (d : A) → i < k → get_or (table k f) i d ≡ f i
  unfolding table
  get_or-table zero f i d h = absurd (omega arith)
  get_or-table (suc k) f zero d h = refl
  get_or-table (suc k) f (suc i) d h = get_or-table k (λ j. f (suc j)) i d (omega arith)

  -- functions that agree below k have one table
  pub same_table : (k : ℕ) (f g : ℕ → A) → ((i : ℕ) → i < k → f i ≡ g i) → table k f ≡ table k g
  unfolding table
  same_table zero f g h = refl
  same_table (suc k) f g h = rw (h 0 (omega arith), same_table k (λ i. f (suc i)) (λ i. g (suc i)) (λ i b. h (suc i) (omega arith)))

  -- ---- blocks of h values

  pub blocks_in : (d : A) (h : ℕ) (f : ℕ → A) (b i : ℕ) → i < h → blocks d h f b i ≡ f (h * b + i)
  unfolding blocks
  blocks_in d h f b i hi = rw (lt-ltb i h hi)

  pub blocks_past : (d : A) (h : ℕ) (f : ℕ → A) (b i : ℕ) → h ≤ i → blocks d h f b i ≡ d
  unfolding blocks
  blocks_past d h f b i hi = rw (le-ltb i h hi)

  -- each value stands in a block
  pub blocks_at : (d : A) (h : ℕ) (f : ℕ → A) (r : ℕ) → 0 < h → blocks d h f (r / h) (r % h) ≡ f r
  blocks_at d h f r hh = blocks_in d h f (r / h) (r % h) (mod-lt r hh) ∙ rw (div-add-mod r h)

  -- so equal blocks are of equal functions
  pub blocks_inj : (d : A) (h : ℕ) (f g : ℕ → A) → 0 < h → blocks d h f ≡ blocks d h g → f ≡ g
  blocks_inj d h f g hh e =
      fun_ext (λ r. sym (blocks_at d h f r hh) ∙ ap (λ (u : ℕ → ℕ → A). u (r / h) (r % h)) e ∙ blocks_at d h g r hh)

  -- value i of block b replaced
  pub blocks_upd : (d : A) (h : ℕ) (f : ℕ → A) (b i : ℕ) (v : A) → i < h
      → blocks d h (upd f (h * b + i) v) ≡ upd (blocks d h f) b (upd (blocks d h f b) i v)
  blocks_upd d h f b i v hi =
      sym
      (upd_by _ _ b _
      (sym (upd_by _ _ i v here (λ j ne. left b j (λ hj e. ne (omega arith)))))
      (λ c ne. fun_ext (λ j. left c j (λ hj e. ne (same_row c b j i h hj hi (rw (mul_comm c h, mul_comm b h) e))))))
    where
      new : ℕ → A
      new = upd f (h * b + i) v

      here : blocks d h new b i ≡ v
      here = blocks_in d h new b i hi ∙ upd_same f (h * b + i) v

      -- a value at another place is left
      left : (c j : ℕ) → (j < h → h * c + j ≡ h * b + i → ⊥) → blocks d h new c j ≡ blocks d h f c j
      left c j ne = go (dec_lt j h)
        where
          go : Dec (j < h) → blocks d h new c j ≡ blocks d h f c j
          go (yes hj) = blocks_in d h new c j hj ∙ upd_other f (h * b + i) v (h * c + j) (ne hj) ∙ sym (blocks_in d h f c j hj)
          go (no hj) = blocks_past d h new c j (omega arith) ∙ sym (blocks_past d h f c j (omega arith))
