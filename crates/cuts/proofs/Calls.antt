-- What a block run call does to one lane, from its contract alone: accepted, refused, and where the lane is not active or the row is not
-- in the range. Assumes nothing.
use mathlib.Core.Path.{◌≡◌, sym, ◌∙◌, ap}
use mathlib.Core.List.{List, []}
use Prim.Native.Nat.{ℕ, ◌+◌, ◌≤◌, ◌<◌}
use native.Mathlib.Decide.{ℕ_discrete, dec_lt}
use native.Mathlib.Omega.{arith}
use lib.ListN.{get_or}
use lib.Seq.{ext_get_or}
use lib.Ieee.{Float, nan}
use borrow.Author.Tests.{eq-eqb, ne_eqb}
use Rattle.grid.specs.Functions.{table}
use Rattle.grid.specs.Cells.{col, blk}
use Rattle.grid.proofs.TableLaws.{same_table}
use Rattle.grid.proofs.CellLaws.{col_of_blk}
use Rattle.grid.proofs.EachLaws.{each_above}
use Rattle.share.specs.Share.{Buffers, Columns, columns_of}
use Rattle.block.specs.Call.{Call, Meets, refusal_of, lanes_of, inputs, share_of}
use Rattle.block.proofs.RefusalLaws.{call_taken}
use Rattle.cuts.specs.Cuts.{entering, leaving, Which, buffer, Carried, kept_back, lent_at, Around, rows_of, Untouched, Outside}
use Rattle.cuts.proofs.Accepted.{Good, good}
use Rattle.cuts.proofs.State.{list_of, columns_end, state_listed}
use Rattle.cuts.proofs.Share.{state_after, output_at, share_state, share_output, share_outside}

-- ---- accepted

module _ (c : Call) (ok : refusal_of c ≡ 0) where
  pub call_good : Good c.settings
  call_good = good (call_taken c ok).limits

  pub call_active : c.active ≤ lanes_of c
  call_active = (call_taken c ok).actives

  pub call_within : c.range.first + c.range.count ≤ c.settings.shaper.frames
  call_within = (call_taken c ok).limits.range

  module _ (m : Meets c) (lane : ℕ) (on : lane < c.active) where
    abbrev enter : Columns
    enter = columns_of (lanes_of c) c.before lane

    shared : columns_of (lanes_of c) c.after lane ≡ share_of c lane enter
    shared = (m.lanes ok).inside lane (omega (arith, call_active)) (omega arith) on

    pub call_state : leaving c lane ≡ state_after c.settings (inputs c lane) c.range.first (entering c lane) c.range.count
    call_state =
        state_listed (lanes_of c) lane c.after ∙ ap list_of shared
        ∙ share_state c.settings call_good c.range (inputs c lane) enter (columns_end (lanes_of c) lane c.before)
        ∙ ap (λ (s : List Float). state_after c.settings (inputs c lane) c.range.first s c.range.count)
        (sym (state_listed (lanes_of c) lane c.before))

    output_shared : col nan (lanes_of c) lane c.after.output ≡ (share_of c lane enter).output
    unfolding columns_of
    output_shared = ap (λ (v : Columns). v.output) shared

    pub call_rows : rows_of lane c
        ≡ table c.range.count (output_at c.settings (inputs c lane) c.range.first (entering c lane))
    call_rows =
        rw (eq-eqb (refusal_of c) 0 ok)
        (same_table c.range.count _ _
        (λ k h.
        ap (λ (f : ℕ → Float). f (c.range.first + k)) output_shared
        ∙ share_output c.settings call_good c.range (inputs c lane) enter (columns_end (lanes_of c) lane c.before) k h
        ∙ ap (λ (s : List Float). output_at c.settings (inputs c lane) c.range.first s k)
        (sym (state_listed (lanes_of c) lane c.before))))

    pub call_outside : (row : ℕ) → (c.range.first ≤ row → row < c.range.first + c.range.count → ⊥)
        → col nan (lanes_of c) lane c.after.output row ≡ col nan (lanes_of c) lane c.before.output row
    unfolding columns_of
    call_outside row free =
        ap (λ (f : ℕ → Float). f row) output_shared ∙ share_outside c.settings c.range (inputs c lane) enter row free

-- ---- refused

-- a call that leaves its buffers leaves every cell of the lane's state, wherever it was lent
module _ (c : Call) (still : c.after ≡ c.before) where
  carried : (x y : Float) → Carried c x y → x ≡ y
  carried x y (kept_back e) = e
  carried x y (lent_at w i p q) = sym p ∙ ap (λ (b : Buffers). get_or (buffer w b) i nan) (sym still) ∙ q

  pub still_state : (s t : List Float) → Around c s t → s ≡ t
  still_state s t h = ext_get_or nan s t (sym h.size) (λ i l. carried _ _ (h.cells i l))

module _ (c : Call) (bad : refusal_of c ≡ 0 → ⊥) where
  -- it gives no output
  pub refused_rows : (lane : ℕ) → rows_of lane c ≡ []
  refused_rows lane = rw (ne_eqb (refusal_of c) 0 bad)

  pub refused_state : Meets c → (s t : List Float) → Around c s t → s ≡ t
  refused_state m = still_state c (m.refused bad)

-- ---- lanes that are not active

module _ (c : Call) (m : Meets c) where
  -- a part of the lane's columns
  idle : (part : Columns → ℕ → Float) → refusal_of c ≡ 0 → (row lane : ℕ) → c.active ≤ lane → lane < lanes_of c
      → part (columns_of (lanes_of c) c.after lane) row ≡ part (columns_of (lanes_of c) c.before lane) row
  idle part ok row lane off low = ap (λ (v : Columns). part v row) (each_above (m.lanes ok) lane low off)

  idle_blocks : refusal_of c ≡ 0 → (lane : ℕ) → c.active ≤ lane → lane < lanes_of c
      → blk nan 24 (lanes_of c) lane c.after.dec ≡ blk nan 24 (lanes_of c) lane c.before.dec
  unfolding columns_of
  idle_blocks ok lane off low = ap (λ (v : Columns). v.dec) (each_above (m.lanes ok) lane low off)

  idle_accepted : refusal_of c ≡ 0 → Untouched c
  unfolding columns_of
  idle_accepted ok =
      record {
        output = idle (λ (v : Columns). v.output) ok;
        pairs = idle (λ (v : Columns). v.pairs) ok;
        fm = idle (λ (v : Columns). v.fm) ok;
        last = idle (λ (v : Columns). v.last) ok;
        dec = λ row lane off low.
            ap (λ (f : ℕ → Float). f row)
            (col_of_blk nan 24 (lanes_of c) lane c.after.dec c.before.dec (omega arith) (idle_blocks ok lane off low));
      }

  idle_refused : (refusal_of c ≡ 0 → ⊥) → Untouched c
  idle_refused bad =
      record {
        output = same Which.output;
        pairs = same Which.pairs;
        fm = same Which.fm;
        last = same Which.last;
        dec = same Which.dec;
      }
    where
      same : (w : Which) (row lane : ℕ) → c.active ≤ lane → lane < lanes_of c
          → col nan (lanes_of c) lane (buffer w c.after) row ≡ col nan (lanes_of c) lane (buffer w c.before) row
      same w row lane off low = ap (λ (b : Buffers). col nan (lanes_of c) lane (buffer w b) row) (m.refused bad)

  pub untouched : Untouched c
  untouched = go (ℕ_discrete (refusal_of c) 0)
    where
      go : Dec (refusal_of c ≡ 0) → Untouched c
      go (yes ok) = idle_accepted ok
      go (no bad) = idle_refused bad

-- ---- rows outside the range

pub outside : (c : Call) → Meets c → Outside c
outside c m = record { rows = λ ok row lane low free. go ok row lane low free (dec_lt lane c.active) }
  where
    go : refusal_of c ≡ 0 → (row lane : ℕ) → lane < lanes_of c
        → (c.range.first ≤ row → row < c.range.first + c.range.count → ⊥) → Dec (lane < c.active)
        → col nan (lanes_of c) lane c.after.output row ≡ col nan (lanes_of c) lane c.before.output row
    go ok row lane low free (yes on) = call_outside c ok m lane on row free
    go ok row lane low free (no off) = (untouched c m).output row lane (omega arith) low
