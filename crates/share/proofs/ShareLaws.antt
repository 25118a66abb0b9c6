-- The laws of a lane's share: the copy, tables that are cut, and the share from what its parts promise. Assumes nothing.
use mathlib.Core.Path.{◌≡◌, refl, sym, ◌∙◌, ap}
use mathlib.Core.List.{List}
use Prim.Native.Nat.{ℕ, ◌+◌, ◌*◌, ◌≤◌, ◌<◌}
use native.Mathlib.Nat.{mul-le-mul_left, mul-le-mul_right, zero-add}
use native.Mathlib.Omega.{arith}
use lib.ListN.{length, get_or, set, take}
use lib.Seq.{take-take, length-take-le}
use lib.Ieee.{Float, nan}
use Rattle.grid.specs.Functions.{upto, span}
use Rattle.grid.specs.Cells.{col, columns, blk}
use Rattle.grid.specs.Lanes.{Each}
use Rattle.grid.proofs.FunctionLaws.{upto_in, upto_out, span_by, span_none, span_more}
use Rattle.grid.proofs.CellLaws.{col_at, col_set, col_set_other}
use Rattle.grid.proofs.EachLaws.{each_one, one_lane, one_others}
use Rattle.grid.proofs.Index.{row_in}
use Rattle.halfband.specs.Halfband.{View, view, views, cascade, stages_of}
use Rattle.halfband.specs.Floats.{floats, design_of}
use Rattle.halfband.specs.Promises.{Taken}
use Rattle.halfband.specs.Decimated.{lane_part}
use Rattle.shaper.specs.declared.settings.Settings.{Settings}
use Rattle.shaper.specs.declared.settings.Range.{Range}
use Rattle.render.specs.declared.state.BlockSettings.{BlockSettings}
use Rattle.render.specs.declared.state.Voice.{Voice}
use Rattle.render.specs.Lane.{Lent, inputs_of, inputs_in, voice_of, voice_after, sample_at, first_frame, frame_count}
use Rattle.render.specs.Promises.{Limits, Readable}
use Rattle.render.specs.Frames.{Frames}
use Rattle.share.specs.Share.{Buffers, buffers, columns_of, rendered, decimated, copied, share}
use Rattle.share.specs.Promises.{Writable, StateHeld, Copied, Stored, Sizes, Shared}

-- ---- the copy

module _ (first n lane : ℕ) (work : List Float) where
  abbrev pub Copies : ℕ → List Float → List Float → Type 0
  Copies k output output' = Each n lane (lane + 1) (λ l. span first k (col nan n l work)) (columns nan n output) (columns nan n output')

  pub copies_none : (output : List Float) → Copies 0 output output
  copies_none output = each_one (sym (span_none first _ _)) (λ m hm ne. refl)

  pub copies_more : (k : ℕ) (output output' : List Float) → lane < n → (first + k) * n + lane < length output' → Copies k output output'
      → Copies (k + 1) output (set output' ((first + k) * n + lane) (get_or work (k * n + lane) nan))
  copies_more k output output' hl at was =
      let x = get_or work (k * n + lane) nan in
      each_one
      (col_set nan n lane output' (first + k) x hl at ∙ rw (one_lane was hl, ← col_at nan n lane work k) (span_more first k _ _))
      (λ m hm ne. col_set_other nan n m output' lane (first + k) x hm hl ne ∙ one_others was m hm ne)

-- where the rows lie
module _ {first count n work output : ℕ} (rows : Copied first count n work output) (lane : ℕ) (inside : lane < n) (k : ℕ) (less : k < count) where
  pub from_in : k * n + lane < work
  from_in = omega (arith, row_in k count lane n less inside, rows.from)

  pub to_in : (first + k) * n + lane < output
  to_in = omega (arith, row_in (first + k) (first + count) lane n (omega arith) inside, rows.to)

-- ---- tables that are cut

abbrev pub cut_lent : Lent → Lent
cut_lent l =
    record {
      controls = l.controls;
      curve = take 1025 l.curve;
      cycle = take 2048 l.cycle;
      words = l.words;
      steps = l.steps;
      inner = l.inner;
    }

-- the lane's inputs are cut so already
pub inputs_cut : (s : Settings) (l : Lent) (lane : ℕ) → inputs_of s (cut_lent l) lane ≡ inputs_of s l lane
unfolding inputs_of
inputs_cut s l lane = rw (take-take 1025 1025 l.curve (omega arith), take-take 2048 2048 l.cycle (omega arith))

-- and a lane's inputs as they are read are the definition's
pub inputs_read : (s : Settings) (l : Lent) (lane : ℕ) → inputs_in s (cut_lent l) lane ≡ inputs_of s l lane
unfolding inputs_in inputs_of
inputs_read s l lane = refl

pub cut_readable : {s : Settings} (l : Lent) → Readable s l → Readable s (cut_lent l)
cut_readable l readable =
    record {
      controls = readable.controls;
      curve = rw (length-take-le 1025 l.curve readable.curve) (omega arith);
      cycle = rw (length-take-le 2048 l.cycle readable.cycle) (omega arith);
      words = readable.words;
      steps = readable.steps;
      inner = readable.inner;
    }

-- ---- what the parts ask for

module _ {b : BlockSettings} {r : Range} {w : Buffers} (limits : Limits b r) (writable : Writable b.shaper r w) where
  pub state_held : StateHeld b.shaper.lanes (length w.pairs) (length w.fm) (length w.last)
  state_held = record { pairs = writable.pairs; fm = writable.fm; last = writable.last }

  pub stages_taken : (stages size : ℕ) → stages ≡ stages_of b.shaper.factor → size ≡ length w.work
      → Taken b.designs stages r.count b.shaper.lanes size (length w.dec)
  stages_taken stages size e same =
      rw (e, same)
      (record {
        stages = limits.stages;
        few = limits.lanes;
        frames = omega (arith, limits.range, limits.frames);
        counts = limits.counts;
        rows = rw (← limits.doubled) writable.work;
        cells = writable.dec;
      })

  pub rows_copied : (size : ℕ) → size ≡ length w.work → Copied r.first r.count b.shaper.lanes size (length w.output)
  rows_copied size same =
      let n = b.shaper.lanes in
      let once : r.count ≤ r.count * b.shaper.factor = omega (arith, mul-le-mul_left r.count limits.factor_least) in
      record {
        rows = omega (arith, limits.range, limits.frames);
        from = omega (arith, mul-le-mul_right n once, writable.work);
        to = omega (arith, mul-le-mul_right n limits.range, writable.output);
      }

-- ---- the share

-- values from the first on
span_upto : {A : Type 0} (k : ℕ) (f g : ℕ → A) → span 0 k f g ≡ upto k f g
span_upto k f g =
    span_by 0 k f g (upto k f g) (λ r h. rw zero-add (upto_in k f g r h)) (λ r h. absurd (omega arith)) (λ r h. upto_out k f g r (omega arith))

module _ (b : BlockSettings) (r : Range) (l : Lent) (lane : ℕ) where
  abbrev n : ℕ
  n = b.shaper.lanes

  -- the samples, the state, the decimation and the copy
  pub shared :
      (output work pairs fm last dec work₁ output' work' pairs' fm' last' dec' : List Float) (stages : ℕ) (v end : Voice) → lane < n
      → v ≡ voice_of (col nan n lane pairs) (col nan n lane fm) (col nan n lane last)
      → Frames b (inputs_in b.shaper (cut_lent l) lane) lane (first_frame b r) 0 (frame_count b r) v end work work₁
      → Stored n lane end pairs fm last pairs' fm' last'
      → stages ≡ stages_of b.shaper.factor
      → Each n lane (lane + 1) (λ _. lane_part b.designs stages r.count) (views floats n work₁ dec) (views floats n work' dec')
      → Each n lane (lane + 1) (λ k. span r.first r.count (col nan n k work')) (columns nan n output) (columns nan n output')
      → Sizes (buffers output work pairs fm last dec) (buffers output' work' pairs' fm' last' dec')
      → Shared b r l lane (lane + 1) (buffers output work pairs fm last dec) (buffers output' work' pairs' fm' last' dec')
  unfolding columns_of share copied decimated rendered view
  shared output work pairs fm last dec work₁ output' work' pairs' fm' last' dec' stages v end hl enters ran stored es decimated-lane copied-lane sizes =
      let i = inputs_of b.shaper l lane in
      let v₀ = voice_of (col nan n lane pairs) (col nan n lane fm) (col nan n lane last) in
      let frames : Frames b i lane (first_frame b r) 0 (frame_count b r) v₀ end work work₁ = rw (inputs_read b.shaper l lane, enters) at ran in
      let rows : col nan n lane work₁ ≡ upto (frame_count b r) (sample_at b i (first_frame b r) v₀) (col nan n lane work) =
      one_lane frames.rows hl ∙ span_upto _ _ _ in
      let down : view floats n lane work' dec'
      ≡ cascade floats (design_of b.designs) (stages_of b.shaper.factor) r.count
      (record { rows = upto (frame_count b r) (sample_at b i (first_frame b r) v₀) (col nan n lane work); cells = blk nan 24 n lane dec }) =
      rw (es, rows) at (one_lane decimated-lane hl) in
      let after : end ≡ voice_after b i (first_frame b r) v₀ (frame_count b r) = frames.voice in
      record {
        lanes =
            each_one
            (λ j. record {
              output =
                  (one_lane copied-lane hl
                  ∙ ap (λ (d : View Float). span r.first r.count d.rows (col nan n lane output)) down) j;
              work = (down j).rows;
              pairs = (rw after at (one_lane stored.filters hl)) j;
              fm = (rw after at (one_lane stored.carry hl)) j;
              last = (rw after at (one_lane stored.kept hl)) j;
              dec = (down j).cells;
            })
            (λ m hm ne j. record {
              output = one_others copied-lane m hm ne j;
              work =
                  (ap (λ (d : View Float). d.rows) (one_others decimated-lane m hm ne) ∙ one_others frames.rows m hm ne) j;
              pairs = one_others stored.filters m hm ne j;
              fm = one_others stored.carry m hm ne j;
              last = one_others stored.kept m hm ne j;
              dec = (one_others decimated-lane m hm ne j).cells;
            });
        sizes = sizes;
      }
