-- A call with any arguments and any buffers meets the contract with just the answer and the buffers that the definitions give: for every
-- call there is one. Assumes nothing.
use mathlib.Core.Path.{◌≡◌, refl, sym, ◌∙◌, ap, fun_ext}
use mathlib.Core.Bool.{Bool, true, false, cond}
use mathlib.Core.List.{List}
use Prim.Native.Nat.{ℕ, ◌+◌, ◌*◌, ◌/◌, ◌%◌, ◌≤◌, ◌<◌}
use native.Mathlib.Decide.{dec_lt, ℕ_discrete}
use native.Mathlib.Nat.{div-add-mod', mod-lt}
use native.Mathlib.Omega.{arith}
use lib.Dec.{ltb, eqb}
use lib.ListN.{length}
use lib.Ieee.{Float, nan}
use borrow.Author.Tests.{lt-ltb, le-ltb, eq-eqb, ne_eqb}
use Rattle.grid.specs.Functions.{table, blocks}
use Rattle.grid.specs.Cells.{col, blk}
use Rattle.grid.proofs.Index.{same_row, same_lane, row_in}
use Rattle.grid.proofs.TableLaws.{length_table, get_or-table, blocks_in, blocks_past}
use Rattle.grid.proofs.CellLaws.{col_at, col_past, col_blk}
use Rattle.shaper.specs.declared.settings.Settings.{Settings}
use Rattle.shaper.specs.declared.settings.Range.{Range}
use Rattle.render.specs.declared.state.BlockSettings.{BlockSettings}
use Rattle.render.specs.Lane.{Lent, inputs_of}
use Rattle.share.specs.Share.{Buffers, Columns, columns_of, share}
use Rattle.share.specs.Promises.{Writable}
use Rattle.block.specs.declared.refusal.WriteLengths.{WriteLengths}
use Rattle.block.specs.Refusal.{block_refusal}
use Rattle.block.specs.Call.{Call, Meets, call_numbers, read_lengths, write_lengths, refusal_of, Taken}
use Rattle.block.proofs.RefusalLaws.{accepted}
use Rattle.cuts.proofs.Accepted.{good}
use Rattle.cuts.proofs.State.{columns_end}
use Rattle.cuts.proofs.Leaves.{Left, all_left, share_left}

-- ---- a buffer with given columns

-- `size` cells in rows of n, of which lane l has the column f l
unfoldable pub laid : {A : Type 0} → ℕ → (ℕ → ℕ → A) → ℕ → List A
laid n f size = table size (λ i. f (i % n) (i / n))

pub length_laid : {A : Type 0} (n : ℕ) (f : ℕ → ℕ → A) (size : ℕ) → length (laid n f size) ≡ size
unfolding laid
length_laid n f size = length_table size _

-- the column is f l, if that is what a read past the end gives there
pub col_laid : {A : Type 0} (d : A) (n : ℕ) (f : ℕ → ℕ → A) (size l : ℕ) → l < n → ((r : ℕ) → size ≤ r * n + l → f l r ≡ d)
    → col d n l (laid n f size) ≡ f l
unfolding laid
col_laid d n f size l hl past = fun_ext (λ r. go r (dec_lt (r * n + l) size))
  where
    go : (r : ℕ) → Dec (r * n + l < size) → col d n l (table size (λ i. f (i % n) (i / n))) r ≡ f l r
    go r (yes h) =
        let low : (r * n + l) % n < n = mod-lt (r * n + l) (omega arith) in
        let row : (r * n + l) / n ≡ r = same_row _ r _ l n low hl (div-add-mod' (r * n + l) n) in
        let lane : (r * n + l) % n ≡ l = same_lane _ r _ l n low hl (div-add-mod' (r * n + l) n) in
        col_at d n l _ r ∙ get_or-table size _ (r * n + l) d h ∙ rw (row, lane)
    go r (no h) = col_past d n l _ r (rw length_table (omega arith)) ∙ sym (past r (omega arith))

-- a row that is not in the buffer lies past the rows that the buffer holds
outside : (r rows l n size : ℕ) → l < n → rows * n ≤ size → size ≤ r * n + l → rows ≤ r
outside r rows l n size hl h past = go (dec_lt r rows)
  where
    go : Dec (r < rows) → rows ≤ r
    go (yes b) = absurd (omega (arith, row_in r rows l n b hl))
    go (no b) = omega arith

-- ---- the six buffers with given columns

-- a lane's decimator rows, from its blocks of 24
abbrev flat : (ℕ → ℕ → Float) → ℕ → Float
flat z r = z (r / 24) (r % 24)

abbrev pub laid_out : ℕ → (ℕ → Columns) → WriteLengths → Buffers
laid_out n w size =
    record {
      output = laid n (λ l. (w l).output) size.output;
      work = laid n (λ l. (w l).work) size.work;
      pairs = laid n (λ l. (w l).pairs) size.pairs;
      fm = laid n (λ l. (w l).fm) size.fm;
      last = laid n (λ l. (w l).last) size.last;
      dec = laid n (λ l. flat (w l).dec) size.dec;
    }

pub sizes_laid : (n : ℕ) (w : ℕ → Columns) (size : WriteLengths) → write_lengths (laid_out n w size) ≡ size
sizes_laid n w size j =
    record {
      output = length_laid n (λ l. (w l).output) size.output j;
      work = length_laid n (λ l. (w l).work) size.work j;
      pairs = length_laid n (λ l. (w l).pairs) size.pairs j;
      fm = length_laid n (λ l. (w l).fm) size.fm j;
      last = length_laid n (λ l. (w l).last) size.last j;
      dec = length_laid n (λ l. flat (w l).dec) size.dec j;
    }

blocks_flat : (z : ℕ → ℕ → Float) → ((c i : ℕ) → 24 ≤ i → z c i ≡ nan) → blocks nan 24 (flat z) ≡ z
blocks_flat z ends = fun_ext (λ c. fun_ext (λ i. go c i (dec_lt i 24)))
  where
    go : (c i : ℕ) → Dec (i < 24) → blocks nan 24 (flat z) c i ≡ z c i
    go c i (yes h) =
        let row : (24 * c + i) / 24 ≡ c = omega arith in
        let at : (24 * c + i) % 24 ≡ i = omega arith in
        blocks_in nan 24 (flat z) c i h ∙ rw (row, at)
    go c i (no h) = blocks_past nan 24 (flat z) c i (omega arith) ∙ sym (ends c i (omega arith))

module _ (s : Settings) (r : Range) (b : Buffers) (holds : Writable s r b) (w : ℕ → Columns) (l : ℕ) (hl : l < s.lanes)
    (left : Left s r (columns_of s.lanes b l) (w l)) where
  abbrev n : ℕ
  n = s.lanes

  -- a row past the buffer's end is as before, and so `nan`
  past : (f g : ℕ → Float) (xs : List Float) (rows : ℕ) → g ≡ col nan n l xs → rows * n ≤ length xs → ((j : ℕ) → rows ≤ j → f j ≡ g j)
      → (j : ℕ) → length xs ≤ j * n + l → f j ≡ nan
  past f g xs rows is room same j h =
      same j (outside j rows l n _ hl room h) ∙ ap (λ (u : ℕ → Float). u j) is ∙ col_past nan n l xs j h

  blocks_left : (j : ℕ) → 72 ≤ j → flat (w l).dec j ≡ flat (columns_of n b l).dec j
  blocks_left j h = ap (λ (f : ℕ → Float). f (j % 24)) (left.blocks (j / 24) (omega arith))

  flat_column : flat (columns_of n b l).dec ≡ col nan n l b.dec
  unfolding columns_of
  flat_column = fun_ext (λ j. col_blk nan 24 n l b.dec j (omega arith))

  dec_laid : blk nan 24 n l (laid n (λ m. flat (w m).dec) (length b.dec)) ≡ (w l).dec
  unfolding blk
  dec_laid =
      ap (blocks nan 24) (col_laid nan n (λ m. flat (w m).dec) _ l hl (past _ _ b.dec 72 flat_column holds.dec blocks_left))
      ∙ blocks_flat (w l).dec (λ c i h. left.cells c i h ∙ columns_end n l b c i h)

  pub columns_laid : columns_of n (laid_out n w (write_lengths b)) l ≡ w l
  unfolding columns_of
  columns_laid j =
      record {
        output = col_laid nan n (λ m. (w m).output) _ l hl (past _ _ b.output s.frames refl holds.output left.output) j;
        work = col_laid nan n (λ m. (w m).work) _ l hl (past _ _ b.work (r.count * s.factor) refl holds.work left.work) j;
        pairs = col_laid nan n (λ m. (w m).pairs) _ l hl (past _ _ b.pairs 4 refl holds.pairs left.pairs) j;
        fm = col_laid nan n (λ m. (w m).fm) _ l hl (past _ _ b.fm 2 refl holds.fm left.fm) j;
        last = col_laid nan n (λ m. (w m).last) _ l hl (past _ _ b.last 1 refl (omega (arith, holds.last)) left.last) j;
        dec = dec_laid j;
      }

-- ---- a call that gives some lanes their share, `number` being its number by the table

module _ (settings : BlockSettings) (range : Range) (lent : Lent) (before : Buffers) (number : ℕ) (on : ℕ → Bool) where
  -- a lane's columns before the call, and after it if it is one of them and the call accepted
  abbrev entered : ℕ → Columns
  entered l = columns_of settings.shaper.lanes before l

  abbrev shared : ℕ → Columns
  shared l = share settings range (inputs_of settings.shaper lent l) (entered l)

  -- every lane's after an accepted call
  abbrev shared_columns : ℕ → Columns
  shared_columns l = cond (on l) (shared l) (entered l)

  unfoldable pub shared_after : Buffers
  shared_after = cond (eqb number 0) (laid_out settings.shaper.lanes shared_columns (write_lengths before)) before

  module _ (ok : number ≡ 0) where
    shared_accepted : shared_after ≡ laid_out settings.shaper.lanes shared_columns (write_lengths before)
    unfolding shared_after
    shared_accepted = rw (eq-eqb number 0 ok)

    column_on : (l : ℕ) → on l ≡ true → shared_columns l ≡ shared l
    column_on l h = rw h

    column_off : (l : ℕ) → on l ≡ false → shared_columns l ≡ entered l
    column_off l h = rw h

    module _ {active : ℕ} (taken : Taken settings range active lent before) where
      shared_left : (l : ℕ) → Left settings.shaper range (entered l) (shared_columns l)
      shared_left l = go (on l) refl
        where
          go : (b : Bool) → on l ≡ b → Left settings.shaper range (entered l) (shared_columns l)
          go true h = rw (column_on l h) (share_left settings range _ _ (good taken.limits) taken.limits.range)
          go false h = rw (column_off l h) (all_left _ _ _)

      columns_after : (l : ℕ) → l < settings.shaper.lanes → columns_of settings.shaper.lanes shared_after l ≡ shared_columns l
      columns_after l h =
          ap (λ (b : Buffers). columns_of settings.shaper.lanes b l) shared_accepted
          ∙ columns_laid settings.shaper range before taken.writable shared_columns l h (shared_left l)

      pub shared_on : (l : ℕ) → l < settings.shaper.lanes → on l ≡ true → columns_of settings.shaper.lanes shared_after l ≡ shared l
      shared_on l low h = columns_after l low ∙ column_on l h

      pub shared_off : (l : ℕ) → l < settings.shaper.lanes → on l ≡ false → columns_of settings.shaper.lanes shared_after l ≡ entered l
      shared_off l low h = columns_after l low ∙ column_off l h

  pub shared_refused : (number ≡ 0 → ⊥) → shared_after ≡ before
  unfolding shared_after
  shared_refused bad = rw (ne_eqb number 0 bad)

  pub shared_sizes : write_lengths shared_after ≡ write_lengths before
  shared_sizes = go (ℕ_discrete number 0)
    where
      go : Dec (number ≡ 0) → write_lengths shared_after ≡ write_lengths before
      go (yes ok) = ap write_lengths (shared_accepted ok) ∙ sizes_laid settings.shaper.lanes shared_columns (write_lengths before)
      go (no bad) = ap write_lengths (shared_refused bad)

-- ---- the block run: the active lanes

module _ (settings : BlockSettings) (range : Range) (active coefs numbers : ℕ) (lent : Lent) (before : Buffers) where
  abbrev pub made_number : ℕ
  made_number = block_refusal (call_numbers settings range active) (read_lengths coefs numbers lent) (write_lengths before)

  abbrev actives : ℕ → Bool
  actives l = ltb l active

  abbrev pub made : Call
  made =
      record {
        settings = settings;
        range = range;
        active = active;
        coefs = coefs;
        numbers = numbers;
        lent = lent;
        before = before;
        after = shared_after settings range lent before made_number actives;
        answer = record { number = made_number; frames = cond (eqb made_number 0) range.count 0 };
      }

  pub made_sizes : write_lengths made.after ≡ write_lengths before
  made_sizes = shared_sizes settings range lent before made_number actives

  pub met_by : Meets made
  unfolding refusal_of
  met_by =
      record {
        number = refl;
        frames = refl;
        refused = shared_refused settings range lent before made_number actives;
        lanes = λ ok. let taken = accepted settings range active coefs numbers lent before ok in
            record {
              inside = λ l h lo on. shared_on settings range lent before made_number actives ok taken l h (lt-ltb l active on);
              outside = λ l h off. shared_off settings range lent before made_number actives ok taken l h (le-ltb l active (least l off));
            };
        sizes = made_sizes;
      }
    where
      least : (l : ℕ) → (0 ≤ l → l < active → ⊥) → active ≤ l
      least l off = go (dec_lt l active)
        where
          go : Dec (l < active) → active ≤ l
          go (yes h) = absurd (off (omega arith) h)
          go (no h) = omega arith
