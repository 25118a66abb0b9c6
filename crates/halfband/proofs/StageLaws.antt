-- The laws of a stage on one lane, over plain lists. Assumes nothing.
use mathlib.Core.Path.{◌≡◌, refl, sym, ◌∙◌, ap, fun_ext}
use mathlib.Core.List.{List}
use Prim.Native.Nat.{ℕ, ◌+◌, ◌*◌, ◌<◌}
use native.Mathlib.Numerals.{add-one}
use native.Mathlib.Omega.{arith}
use lib.ListN.{length, get_or, set, length-set}
use lib.Ieee.{Float, nan}
use Rattle.grid.specs.Functions.{upd, upto}
use Rattle.grid.specs.Cells.{col, blk}
use Rattle.grid.specs.Lanes.{Each}
use Rattle.grid.proofs.Index.{row_in}
use Rattle.grid.proofs.FunctionLaws.{upto_none, upto_out, upto_more}
use Rattle.grid.proofs.CellLaws.{col_at, col_set, col_set_other}
use Rattle.grid.proofs.EachLaws.{each_one, one_lane, one_others}
use Rattle.halfband.specs.Halfband.{Sections, view, views, after, out, stage}
use Rattle.halfband.specs.Floats.{floats}
use Rattle.halfband.specs.Promises.{cells_of, Framed, Run, Loaded, Stored, Rows}
use Rattle.halfband.proofs.ChainLaws.{out_alike, after_upto}

-- where a row of a lane lies
pub row_held : (size f n l r : ℕ) → Rows size f n → l < n → r < 2 * f → r * n + l < size
row_held size f n l r rows hl hr = omega (arith, row_in r (2 * f) l n hr hl)

module _ (D : Sections Float) (n l : ℕ) (buf z : List Float) where
  pub run_none : length z ≡ 24 → Run D n l 0 buf z buf z
  unfolding after
  run_none local =
      record { size = refl; local = local; lanes = each_one (sym (upto_none _ _)) (λ m hm ne. refl); cells = refl }

  -- one frame more
  pub run_more : (k : ℕ) (buf' z' z'' : List Float) (r : Float) → l < n → k * n + l < length buf' → Run D n l k buf z buf' z'
      → Framed D z' z'' (get_or buf' (2 * k * n + l) nan) (get_or buf' ((2 * k + 1) * n + l) nan) r
      → Run D n l (k + 1) buf z (set buf' (k * n + l) r) z''
  unfolding after out
  run_more k buf' z' z'' r hl at was did =
      let s : ℕ → Float = col nan n l buf in
      let rows : col nan n l buf' ≡ upto k (out floats D (cells_of z) s) s = one_lane was.lanes hl in
      let early : get_or buf' (2 * k * n + l) nan ≡ s (2 * k) =
      sym (col_at nan n l buf' (2 * k)) ∙ ap (λ (f : ℕ → Float). f (2 * k)) rows ∙ upto_out k _ _ (2 * k) (omega arith) in
      let late : get_or buf' ((2 * k + 1) * n + l) nan ≡ s (2 * k + 1) =
      sym (col_at nan n l buf' (2 * k + 1)) ∙ ap (λ (f : ℕ → Float). f (2 * k + 1)) rows
      ∙ upto_out k _ _ (2 * k + 1) (omega arith) in
      let sample : r ≡ out floats D (cells_of z) s k = did.sample ∙ rw (was.cells, early, late) in
      record {
        size = rw length-set was.size;
        local = did.size;
        lanes =
            each_one (col_set nan n l buf' k r hl at ∙ rw (rows, sample) (upto_more k _ _))
            (λ m hm ne. col_set_other nan n m buf' l k r hm hl ne ∙ one_others was.lanes m hm ne);
        cells = did.cells ∙ rw (was.cells, early, late, add-one k);
      }

  -- a stage: its cells loaded, its frames run, its cells stored
  pub staged : (b f : ℕ) (buf' z' st st' : List Float) → l < n → Loaded st b n l (2 * D.count) z → Run D n l f buf z buf' z'
      → Stored b n l (2 * D.count) z' st st'
      → Each n l (l + 1) (λ _. stage floats D b f) (views floats n buf st) (views floats n buf' st')
  unfolding view stage
  staged b f buf' z' st st' hl first did last =
      let s : ℕ → Float = col nan n l buf in
      let own : ℕ → Float = blk nan 24 n l st b in
      let same : out floats D (cells_of z) s ≡ out floats D own s =
      fun_ext (λ k. out_alike floats D (cells_of z) own s k first.cells) in
      let rows : col nan n l buf' ≡ upto f (out floats D own s) s = rw same at (one_lane did.lanes hl) in
      let cells : blk nan 24 n l st' ≡ upd (blk nan 24 n l st) b (after floats D own s f) =
      rw (did.cells, after_upto floats D (cells_of z) own s f first.cells) at (one_lane last.lanes hl) in
      each_one (λ i. record { rows = rows i; cells = cells i })
      (λ m hm ne i. record { rows = one_others did.lanes m hm ne i; cells = one_others last.lanes m hm ne i })
