-- What a lane's share of a range leaves: rows and cells past the lengths that line 8 asks for. Assumes nothing.
use mathlib.Core.Path.{◌≡◌, refl, ◌∙◌}
use Prim.Native.Nat.{ℕ, ◌+◌, ◌*◌, ◌≤◌}
use native.Mathlib.Omega.{arith}
use Rattle.grid.proofs.FunctionLaws.{upd_other, upto_out, span_above}
use Rattle.halfband.specs.Floats.{floats, design_of}
use Rattle.halfband.proofs.Cuts.{cascade_above}
use Rattle.shaper.specs.declared.settings.Settings.{Settings}
use Rattle.shaper.specs.declared.settings.Range.{Range}
use Rattle.shaper.specs.Lane.{put_pairs, put_carry}
use Rattle.render.specs.declared.state.BlockSettings.{BlockSettings}
use Rattle.render.specs.Lane.{Inputs}
use Rattle.share.specs.Share.{Columns, rendered, decimated, copied, share}
use Rattle.cuts.proofs.Accepted.{Good}
use Rattle.cuts.proofs.Decimator.{cascade_cells_past, cascade_rows_past}

-- v before and w after
pub record Left (s : Settings) (r : Range) (v w : Columns) : Type 0 where
  pub output : (j : ℕ) → s.frames ≤ j → w.output j ≡ v.output j
  pub work : (j : ℕ) → r.count * s.factor ≤ j → w.work j ≡ v.work j
  pub pairs : (j : ℕ) → 4 ≤ j → w.pairs j ≡ v.pairs j
  pub fm : (j : ℕ) → 2 ≤ j → w.fm j ≡ v.fm j
  pub last : (j : ℕ) → 1 ≤ j → w.last j ≡ v.last j
  pub blocks : (c : ℕ) → 3 ≤ c → w.dec c ≡ v.dec c
  pub cells : (c i : ℕ) → 24 ≤ i → w.dec c i ≡ v.dec c i

-- nothing is done
pub all_left : (s : Settings) (r : Range) (v : Columns) → Left s r v v
all_left s r v =
    record {
      output = λ j h. refl;
      work = λ j h. refl;
      pairs = λ j h. refl;
      fm = λ j h. refl;
      last = λ j h. refl;
      blocks = λ c h. refl;
      cells = λ c i h. refl;
    }

pub share_left : (b : BlockSettings) (r : Range) (i : Inputs) (v : Columns) → Good b → r.first + r.count ≤ b.shaper.frames
    → Left b.shaper r v (share b r i v)
unfolding share copied decimated rendered put_pairs put_carry
share_left b r i v good inside =
    record {
      output = λ j h. span_above _ _ _ _ j (omega arith);
      work = λ j h. cascade_rows_past floats (design_of b.designs) _ r.count _ j (rw (← good.power) h) ∙ upto_out _ _ _ j h;
      pairs = λ j h.
          upd_other _ 3 _ j (omega arith) ∙ upd_other _ 2 _ j (omega arith)
          ∙ upd_other _ 1 _ j (omega arith) ∙ upd_other _ 0 _ j (omega arith);
      fm = λ j h. upd_other _ 1 _ j (omega arith) ∙ upd_other _ 0 _ j (omega arith);
      last = λ j h. upd_other _ 0 _ j (omega arith);
      blocks = λ c h. cascade_above floats (design_of b.designs) _ r.count _ c (omega (arith, good.stages));
      cells = λ c k h.
          cascade_cells_past floats (design_of b.designs) _ r.count _ (λ j l. good.counts j (omega (arith, good.stages))) c k h;
    }
