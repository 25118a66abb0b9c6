-- One lane over a range: its state after k host frames and its output at each, as functions of its state before. A range of a + k
-- host frames does what its first a do and then the k after them; `share` does what they say. Assumes nothing.
use mathlib.Core.Path.{◌≡◌, refl, sym, ◌∙◌, ap}
use mathlib.Core.List.{List}
use Prim.Native.Nat.{ℕ, suc, ◌+◌, ◌-◌, ◌*◌, ◌^◌, ◌≤◌, ◌<◌}
use native.Mathlib.Decide.{dec_lt}
use native.Mathlib.Nat.{add-mul, zero-mul}
use native.Mathlib.Omega.{arith}
use lib.Ieee.{Float}
use Rattle.grid.specs.Functions.{upd, upto, span}
use Rattle.grid.proofs.FunctionLaws.{upto_in, span_in, span_below, span_above}
use Rattle.halfband.specs.Halfband.{View, cascade, stages_of}
use Rattle.halfband.specs.Floats.{floats, design_of}
use Rattle.halfband.proofs.Cuts.{Joined, cut_joined, cascade_above}
use Rattle.halfband.proofs.RangeLaws.{cascade_none, agree_rows, agree_cells}
use Rattle.shaper.specs.declared.settings.Range.{Range}
use Rattle.shaper.specs.Lane.{put_pairs, put_carry}
use Rattle.render.specs.declared.state.BlockSettings.{BlockSettings}
use Rattle.render.specs.declared.state.Voice.{Voice}
use Rattle.render.specs.Lane.{Inputs, voice_after, sample_at, first_frame, frame_count}
use Rattle.share.specs.Share.{Columns, enters, rendered, decimated, copied, share}
use Rattle.cuts.proofs.Accepted.{Good}
use Rattle.cuts.proofs.Decimator.{cascade_cells_past}
use Rattle.cuts.proofs.Lane.{voice_add, voice_none, sample_add}
use Rattle.cuts.proofs.State.{listed, voice_in, cells_in, Ends, cells_end, voice_listed, cells_listed, same_listed, listed_again, list_of}

-- the decimation of k host frames
abbrev pub halved : BlockSettings → ℕ → View Float → View Float
halved b k v = cascade floats (design_of b.designs) (stages_of b.shaper.factor) k v

module _ (b : BlockSettings) (i : Inputs) (first : ℕ) (s : List Float) where
  -- the voice after the first k host frames
  abbrev pub voice_from : ℕ → Voice
  voice_from k = voice_after b i (first * b.shaper.factor) (voice_in s) (k * b.shaper.factor)

  -- what the decimator is given: all samples from host frame `first` on
  abbrev pub given : View Float
  given = record { rows = sample_at b i (first * b.shaper.factor) (voice_in s); cells = cells_in s }

  -- the state after k host frames
  unfoldable pub state_after : ℕ → List Float
  state_after k = listed (voice_from k) (halved b k given).cells

  -- the output at the k-th of them, from 0
  unfoldable pub output_at : ℕ → Float
  output_at k = (halved b (suc k) given).rows k

-- ---- blocks that a factor has no stage for are left

-- two decimations leave the same in blocks 0 to 2, if they do so in the blocks of their stages and were given the same in the others
same_blocks : (b : BlockSettings) (j k : ℕ) (v w : View Float)
    → ((c : ℕ) → c < stages_of b.shaper.factor → (halved b j v).cells c ≡ (halved b k w).cells c)
    → ((c : ℕ) → stages_of b.shaper.factor ≤ c → c < 3 → v.cells c ≡ w.cells c)
    → (c : ℕ) → c < 3 → (halved b j v).cells c ≡ (halved b k w).cells c
same_blocks b j k v w used unused c h = go (dec_lt c (stages_of b.shaper.factor))
  where
    go : Dec (c < stages_of b.shaper.factor) → (halved b j v).cells c ≡ (halved b k w).cells c
    go (yes l) = used c l
    go (no l) =
        cascade_above floats (design_of b.designs) _ j v c (omega arith) ∙ unused c (omega arith) h
        ∙ sym (cascade_above floats (design_of b.designs) _ k w c (omega arith))

module _ (b : BlockSettings) (good : Good b) where
  few : (j : ℕ) → j < stages_of b.shaper.factor → (design_of b.designs j).count ≤ 12
  few j h = good.counts j (omega (arith, good.stages))

  -- blocks end where they did
  pub halved_ends : (k : ℕ) (v : View Float) → Ends v.cells → Ends (halved b k v).cells
  halved_ends k v ends c i h = cascade_cells_past floats (design_of b.designs) (stages_of b.shaper.factor) k v few c i h ∙ ends c i h

  -- an output frame is the same whatever comes after it
  halved_row : (k j : ℕ) (v : View Float) → j < k → (halved b k v).rows j ≡ (halved b (suc j) v).rows j
  halved_row k j v h =
      let e : suc j + (k - suc j) ≡ k = omega arith in
      sym
      ((cut_joined floats (design_of b.designs) (stages_of b.shaper.factor) (suc j) (k - suc j) v v
      (record { rows = λ r. v.rows (suc j * 2 ^ stages_of b.shaper.factor + r); cells = (halved b (suc j) v).cells })
      (record { first_rows = λ r l. refl; first_cells = λ c l. refl; next_rows = λ r l. refl; next_cells = λ c l. refl })
      ).first_rows j (omega arith)
      ∙ ap (λ (x : ℕ). (halved b x v).rows j) e)

  -- ---- a + k host frames

  module _ (i : Inputs) (first : ℕ) where
    pub state_none : (v : Voice) (z : ℕ → ℕ → Float) → Ends z → state_after b i first (listed v z) 0 ≡ listed v z
    unfolding state_after
    state_none v z ends =
        same_listed _ _ _ _ (rw zero-mul (voice_none b i (first * b.shaper.factor) (voice_in (listed v z))))
        (λ c h. ap (λ (g : ℕ → ℕ → Float). g c) (cascade_none floats (design_of b.designs) _ _))
        ∙ listed_again v z ends

    module _ (s : List Float) (a : ℕ) where
      later : voice_in (state_after b i first s a) ≡ voice_from b i first s a
      unfolding state_after
      later = voice_listed _ _

      -- the samples of the second part
      samples : (r : ℕ) → sample_at b i ((first + a) * b.shaper.factor) (voice_in (state_after b i first s a)) r
          ≡ sample_at b i (first * b.shaper.factor) (voice_in s) (a * b.shaper.factor + r)
      samples r = rw (later, add-mul first a b.shaper.factor) (sym (sample_add b i _ (voice_in s) _ r))

      blocks : (c : ℕ) → c < 3 → cells_in (state_after b i first s a) c ≡ (halved b a (given b i first s)).cells c
      unfolding state_after
      blocks = cells_listed _ _ (halved_ends a (given b i first s) (cells_end s))

      joined : (k : ℕ)
          → Joined floats (design_of b.designs) (stages_of b.shaper.factor) a k (given b i first s) (given b i first s)
          (given b i (first + a) (state_after b i first s a))
      joined k =
          cut_joined floats (design_of b.designs) (stages_of b.shaper.factor) a k _ _ _
          (record {
            first_rows = λ r h. refl;
            first_cells = λ c h. refl;
            next_rows = λ r h. rw (← good.power) (samples r);
            next_cells = λ c h. blocks c (omega (arith, good.stages));
          })

      pub state_add : (k : ℕ) → state_after b i first s (a + k) ≡ state_after b i (first + a) (state_after b i first s a) k
      unfolding state_after
      state_add k =
          same_listed _ _ _ _
          (rw (later, add-mul a k b.shaper.factor, add-mul first a b.shaper.factor) (voice_add b i _ (voice_in s) _ _))
          (same_blocks b (a + k) k _ _ (λ c h. sym ((joined k).cells c h))
          (λ c low h. sym (blocks c h ∙ cascade_above floats (design_of b.designs) _ a _ c low)))

      pub output_add : (k : ℕ) → output_at b i first s (a + k) ≡ output_at b i (first + a) (state_after b i first s a) k
      unfolding output_at
      output_add k =
          let e : a + suc k ≡ suc (a + k) = omega arith in
          sym ((joined (suc k)).next_rows k (omega arith) ∙ ap (λ (x : ℕ). (halved b x (given b i first s)).rows (a + k)) e)

  -- ---- what `share` does

  module _ (r : Range) (i : Inputs) (v : Columns) (ends : Ends v.dec) where
    -- the decimator's view in `share`: past the range's samples the work rows are as they were
    abbrev worked : View Float
    worked = record { rows = upto (frame_count b r) (sample_at b i (first_frame b r) (enters v)) v.work; cells = v.dec }

    abbrev whole : View Float
    whole = given b i r.first (list_of v)

    voice_shared : enters (share b r i v) ≡ voice_after b i (first_frame b r) (enters v) (frame_count b r)
    unfolding share copied decimated rendered put_pairs put_carry upd
    voice_shared = refl

    cells_shared : (share b r i v).dec ≡ (halved b r.count worked).cells
    unfolding share copied decimated rendered
    cells_shared = refl

    output_shared : (share b r i v).output ≡ span r.first r.count (halved b r.count worked).rows v.output
    unfolding share copied decimated rendered
    output_shared = refl

    rows : (j : ℕ) → j < r.count * 2 ^ stages_of b.shaper.factor → worked.rows j ≡ whole.rows j
    rows j h = upto_in _ _ _ j (rw good.power h) ∙ rw voice_listed

    blocks_whole : (c : ℕ) → c < 3 → whole.cells c ≡ v.dec c
    blocks_whole = cells_listed _ _ ends

    used : (c : ℕ) → c < stages_of b.shaper.factor → worked.cells c ≡ whole.cells c
    used c h = sym (blocks_whole c (omega (arith, good.stages)))

    pub share_state : list_of (share b r i v) ≡ state_after b i r.first (list_of v) r.count
    unfolding state_after
    share_state =
        same_listed _ _ _ _
        (voice_shared ∙ rw voice_listed)
        (λ c h.
        ap (λ (g : ℕ → ℕ → Float). g c) cells_shared
        ∙ same_blocks b r.count r.count worked whole
        (λ d l. agree_cells floats (design_of b.designs) (stages_of b.shaper.factor) r.count whole worked rows used d l)
        (λ d low l. sym (blocks_whole d l)) c h)

    pub share_output : (k : ℕ) → k < r.count → (share b r i v).output (r.first + k) ≡ output_at b i r.first (list_of v) k
    unfolding output_at
    share_output k h =
        ap (λ (g : ℕ → Float). g (r.first + k)) output_shared ∙ span_in r.first r.count _ _ k h
        ∙ agree_rows floats (design_of b.designs) (stages_of b.shaper.factor) r.count whole worked rows used k h
        ∙ halved_row r.count k whole h

-- output rows outside the range are left
module _ (b : BlockSettings) (r : Range) (i : Inputs) (v : Columns) (row : ℕ)
    (free : r.first ≤ row → row < r.first + r.count → ⊥) where
  spanned : Dec (row < r.first) → Dec (row < r.first + r.count) → (f : ℕ → Float)
      → span r.first r.count f v.output row ≡ v.output row
  spanned (yes l) more f = span_below _ _ f _ row l
  spanned (no l) (yes h) f = absurd (free (omega arith) h)
  spanned (no l) (no h) f = span_above _ _ f _ row (omega arith)

  pub share_outside : (share b r i v).output row ≡ v.output row
  unfolding share copied decimated rendered
  share_outside = spanned (dec_lt row r.first) (dec_lt row (r.first + r.count)) _
