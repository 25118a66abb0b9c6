-- The laws of a lane that no slot shapes: a rendered frame is the cycle at its word, and the state stays. Assumes nothing.
use mathlib.Core.Path.{◌≡◌, refl, sym, ◌∙◌, ap}
use mathlib.Core.Bool.{Bool, true, false, not, ◌||◌, ◌&&◌}
use mathlib.Core.List.{List}
use Prim.Native.Nat.{ℕ, zero, suc, ◌+◌, ◌*◌, ◌≤◌, ◌<◌}
use native.Mathlib.Nat.{mul-le-mul, mul-le-mul_right, add-mul, zero-add}
use native.Mathlib.Omega.{arith}
use lib.ListN.{length, get_or, set}
use lib.Ieee.{Float, nan}
use Rattle.floats.specs.Steps.{◌>>=◌, left}
use Rattle.grid.specs.Functions.{span}
use Rattle.grid.specs.Cells.{col, columns}
use Rattle.grid.specs.Lanes.{Each}
use Rattle.grid.proofs.FunctionLaws.{span_by, span_in, span_above, span_none, span_more}
use Rattle.grid.proofs.CellLaws.{col_at, col_set, col_set_other, get_or-column}
use Rattle.grid.proofs.EachLaws.{each_one, one_lane, one_others}
use Rattle.grid.proofs.Index.{row_in}
use Rattle.reads.specs.Reads.{one_read, cycle_at, read_sum}
use Rattle.wave.specs.Slot.{in_wave}
use Rattle.voice.specs.PhaseRun.{in_phase, reads_of}
use Rattle.voice.specs.WaveRun.{tracks, shaped_of}
use Rattle.voice.proofs.NotWave.{not_wave}
use Rattle.shaper.specs.declared.settings.Range.{Range}
use Rattle.shaper.specs.Lane.{reads_at, shaped_at}
use Rattle.render.specs.declared.state.BlockSettings.{BlockSettings}
use Rattle.render.specs.declared.state.Voice.{Voice}
use Rattle.render.specs.declared.state.Stepped.{Stepped}
use Rattle.render.specs.Lane.{Lent, Inputs, inputs_in, step_at, voice_after, sample_at, first_frame, frame_count}
use Rattle.render.specs.Promises.{Limits, Readable}
use Rattle.render.specs.Frames.{Frames}
use Rattle.render.specs.Plain.{is_plain, cycle_read, Unshaped}
use Rattle.render.proofs.InputLaws.{inputs_cycle, inputs_words}
use Rattle.render.proofs.VoiceLaws.{sample_is}

-- ---- one frame

pub record Neither (mode0 mode1 : ℕ) : Type 0 where
  pub phase : (in_phase mode0 || in_phase mode1) ≡ false
  pub wave0 : in_wave mode0 ≡ false
  pub wave1 : in_wave mode1 ≡ false

pub neither : (mode0 mode1 : ℕ) → is_plain mode0 mode1 ≡ true → Neither mode0 mode1
unfolding is_plain
neither mode0 mode1 e = go (in_phase mode0 || in_phase mode1) (in_wave mode0) (in_wave mode1) refl refl refl e
  where
    go : (p w₀ w₁ : Bool) → (in_phase mode0 || in_phase mode1) ≡ p → in_wave mode0 ≡ w₀ → in_wave mode1 ≡ w₁ → (not p && not (w₀ || w₁)) ≡ true
        → Neither mode0 mode1
    go false false false ep e₀ e₁ t = record { phase = ep; wave0 = e₀; wave1 = e₁ }
    go false false true ep e₀ e₁ t = search
    go false true w₁ ep e₀ e₁ t = search
    go true w₀ w₁ ep e₀ e₁ t = search

module _ (b : BlockSettings) (i : Inputs) (plain : Neither b.shaper.slot0.mode b.shaper.slot1.mode) where
  pub plain_step : (q : ℕ) (v : Voice) → step_at b i q v ≡ record { sample = cycle_at i.cycle (get_or i.words q 0); voice = v }
  unfolding step_at reads_at shaped_at reads_of shaped_of read_sum one_read tracks ◌>>=◌
  plain_step q v =
      rw (left _ _ plain.phase, ← not_wave _ b.shaper.slot0 _ _ _ _ plain.wave0, ← not_wave _ b.shaper.slot1 _ _ _ _ plain.wave1, plain.wave0, plain.wave1, left _ _ refl)

  pub plain_voice : (q : ℕ) (v : Voice) (k : ℕ) → voice_after b i q v k ≡ v
  unfolding voice_after
  plain_voice q v zero = refl
  plain_voice q v (suc k) =
      ap (λ (w : Voice). (step_at b i (q + k) w).voice) (plain_voice q v k) ∙ ap (λ (o : Stepped). o.voice) (plain_step (q + k) v)

  pub plain_sample : (q : ℕ) (v : Voice) (k : ℕ) → sample_at b i q v k ≡ cycle_at i.cycle (get_or i.words (q + k) 0)
  plain_sample q v k =
      sample_is b i q v k ∙ ap (λ (w : Voice). (step_at b i (q + k) w).sample) (plain_voice q v k) ∙ ap (λ (o : Stepped). o.sample) (plain_step (q + k) v)

-- ---- the lane's rows

module _ (from n lane : ℕ) (cycle : List Float) (words : List ℕ) where
  -- the reads of k frames are in the work rows
  abbrev pub ReadTo : ℕ → List Float → List Float → Type 0
  ReadTo k work work' = Each n lane (lane + 1) (λ l. span 0 k (cycle_read from n l cycle words)) (columns nan n work) (columns nan n work')

  pub reads_none : (work : List Float) → ReadTo 0 work work
  reads_none work = each_one (sym (span_none 0 _ _)) (λ m hm ne. refl)

  pub reads_more : (k : ℕ) (work work' : List Float) (x : Float) → lane < n → k * n + lane < length work' → x ≡ cycle_at cycle (get_or words ((from + k) * n + lane) 0)
      → ReadTo k work work' → ReadTo (k + 1) work (set work' (k * n + lane) x)
  unfolding cycle_read
  reads_more k work work' x hl at e was =
      each_one
      (col_set nan n lane work' k x hl at ∙ rw (one_lane was hl, e, ← col_at 0 n lane words (from + k)) (rw zero-add at (span_more 0 k (cycle_read from n lane cycle words) (col nan n lane work))))
      (λ m hm ne. col_set_other nan n m work' lane k x hm hl ne ∙ one_others was m hm ne)

-- where they lie
module _ {from count n words work : ℕ} (rows : Unshaped from count n words work) (lane : ℕ) (inside : lane < n) (k : ℕ) (less : k < count) where
  pub word_in : (from + k) * n + lane < words
  word_in = omega (arith, row_in (from + k) (from + count) lane n (omega arith) inside, rows.read)

  pub work_in : k * n + lane < work
  work_in = omega (arith, row_in k count lane n less inside, rows.written)

-- ---- the range

module _ {b : BlockSettings} {r : Range} (limits : Limits b r) (l : Lent) (lane : ℕ) (hl : lane < b.shaper.lanes) (readable : Readable b.shaper l) where
  -- the range's frames are among the block's
  frames_in : r.first * b.shaper.factor + r.count * b.shaper.factor ≤ b.shaper.frames * b.shaper.factor
  frames_in = omega (arith, add-mul r.first r.count b.shaper.factor, mul-le-mul_right b.shaper.factor limits.range)

  frames_few : b.shaper.frames * b.shaper.factor ≤ 32768
  frames_few = mul-le-mul limits.frames limits.factor_most

  pub unshaped : (work : ℕ) → r.count * b.shaper.factor * b.shaper.lanes ≤ work
      → Unshaped (r.first * b.shaper.factor) (r.count * b.shaper.factor) b.shaper.lanes (length l.words) work
  unshaped work held =
      record {
        frames = omega (arith, frames_in, frames_few);
        read = omega (arith, mul-le-mul_right b.shaper.lanes frames_in, readable.words);
        written = held;
      }

  -- what the reads promise is the frames' promise
  pub plain_frames : (v : Voice) (work work' : List Float)
      → Neither b.shaper.slot0.mode b.shaper.slot1.mode → length work' ≡ length work
      → ReadTo (r.first * b.shaper.factor) b.shaper.lanes lane l.cycle l.words (r.count * b.shaper.factor) work work'
      → Frames b (inputs_in b.shaper l lane) lane (first_frame b r) 0 (frame_count b r) v v work work'
  unfolding cycle_read
  plain_frames v work work' plain size reads =
      let n = b.shaper.lanes in
      let s = b.shaper in
      let i = inputs_in s l lane in
      let from = first_frame b r in
      let count = frame_count b r in
      let f = sample_at b i from v in
      let read : (k : ℕ) → k < count → cycle_read from n lane l.cycle l.words k ≡ f k = λ k h.
      sym (plain_sample b i plain from v k
      ∙ rw (inputs_cycle s l lane, inputs_words s l lane, get_or-column 0 n lane (s.frames * s.factor) l.words (from + k) (omega (arith, frames_in)))) in
      record {
        size = size;
        voice = sym (plain_voice b i plain from v count);
        rows =
            each_one
            (one_lane reads hl
            ∙ span_by 0 count (cycle_read from n lane l.cycle l.words) _ _ (λ k h. span_in 0 count f _ k h ∙ sym (read k h)) (λ k h. absurd (omega arith)) (λ k h. span_above 0 count f _ k h))
            (one_others reads);
      }
