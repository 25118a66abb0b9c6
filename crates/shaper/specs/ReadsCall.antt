-- What the call for one lane's read list promises. Definitions only.
use Rattle.std.specs.Prelude.{◌≡◌, cond, Result, Ok, Err, List, ℕ, ◌+◌, ◌/◌, ◌%◌, eqb, length, take, replicate, Float}
use Rattle.std.specs.Float.{nan}
use Rattle.floats.specs.F32.{0f}
use Rattle.grid.specs.Cells.{col, column, columns}
use Rattle.grid.specs.Lanes.{Each}
use Rattle.limits.specs.Lengths.{spans_of, curve_length}
use Rattle.limits.specs.declared.refusal.Refusal.{Refusal}
use Rattle.limits.specs.Refusals.{line_of}
use Rattle.reads.specs.declared.lists.LaneReads.{LaneReads}
use Rattle.voice.specs.declared.phase_run.Reads.{Reads}
use Rattle.controls.specs.Controls.{ControlBuffers, control_lengths}
use Rattle.shaper.specs.declared.settings.Settings.{Settings}
use Rattle.shaper.specs.declared.settings.Range.{Range}
use Rattle.shaper.specs.declared.single.ReadsAnswer.{ReadsAnswer}
use Rattle.shaper.specs.Lane.{lane_controls, reads_at, put_carry}
use Rattle.shaper.specs.Refusal.{reads_refusal}

-- a refused list: count 0 and only zeros
abbrev pub no_reads : LaneReads
no_reads = record { phase = replicate 4 0; gain = replicate 4 0f; count = 0 }

-- for C: the number, and what an accepted call gives
unfoldable pub reads_answer : Result (ℕ × LaneReads) Refusal → ReadsAnswer
reads_answer (Ok (frames, reads)) = record { number = 0; frames = frames; reads = reads }
reads_answer (Err refusal) = record { number = line_of refusal; frames = 0; reads = no_reads }

-- at rendered frame `sub` of the block's host frame `host`
abbrev pub reads_from : Settings → ℕ → ℕ → ℕ → ℕ → ℕ → ℕ → ControlBuffers → List Float → List Float → List Float → List Float → Reads
reads_from s rate lane host sub word step b curve inner fm last =
    reads_at s rate (lane_controls s b lane) (take curve_length curve) (column nan s.lanes lane (spans_of s.frames) inner) host sub word step
    (col nan s.lanes lane fm 0) (col nan s.lanes lane fm 1) (col nan s.lanes lane last 0)

-- `frame` counts rendered frames from the range's start
abbrev pub reads_called : Settings → ℕ → ℕ → Range → ℕ → ℕ → ℕ → ControlBuffers → List Float → List Float → List Float → List Float → Reads
reads_called s rate lane r frame = reads_from s rate lane (r.first + frame / s.factor) (frame % s.factor)

-- fm and fm' are the FM carry before and after; `last` is only read
pub record ReadsCall (s : Settings) (rate active lane : ℕ) (r : Range) (frame word step : ℕ) (b : ControlBuffers) (curve inner fm fm' last : List Float) (a : ReadsAnswer) : Type 0 where
  pub number : a.number ≡ reads_refusal s rate active lane r frame (control_lengths b) (length curve) (length inner) (length fm) (length last)
  pub frames : a.frames ≡ cond (eqb a.number 0) r.count 0
  pub refused : (a.number ≡ 0 → ⊥) → (a.reads ≡ no_reads) × (fm' ≡ fm)
  pub reads : a.number ≡ 0 → a.reads ≡ (reads_called s rate lane r frame word step b curve inner fm last).reads
  pub carry :
      a.number ≡ 0
      → Each s.lanes lane (lane + 1)
      (λ _. put_carry (reads_called s rate lane r frame word step b curve inner fm last).fm0 (reads_called s rate lane r frame word step b curve inner fm last).fm1)
      (columns nan s.lanes fm) (columns nan s.lanes fm')
  pub size : length fm' ≡ length fm
