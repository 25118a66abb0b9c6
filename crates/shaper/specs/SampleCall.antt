-- What the call for one lane's shaped sample promises. Definitions only.
use Rattle.std.specs.Prelude.{◌≡◌, cond, List, ℕ, ◌+◌, ◌/◌, ◌%◌, eqb, length, Float}
use Rattle.std.specs.Float.{nan}
use Rattle.floats.specs.F32.{0f}
use Rattle.grid.specs.Functions.{upd}
use Rattle.grid.specs.Cells.{col, columns}
use Rattle.grid.specs.Lanes.{Each}
use Rattle.limits.specs.declared.answers.Valued.{Valued}
use Rattle.voice.specs.declared.wave_run.Shaped.{Shaped}
use Rattle.controls.specs.Controls.{ControlBuffers, control_lengths}
use Rattle.shaper.specs.declared.settings.Settings.{Settings}
use Rattle.shaper.specs.declared.settings.Range.{Range}
use Rattle.shaper.specs.Lane.{lane_controls, shaped_at, pair0, pair1, put_pairs}
use Rattle.shaper.specs.Refusal.{sample_refusal}

-- at rendered frame `sub` of the block's host frame `host`
abbrev pub sample_from : Settings → ℕ → ℕ → ℕ → ℕ → Float → ControlBuffers → List Float → List Float → Shaped
sample_from s lane host sub step x b pairs last =
    shaped_at s (lane_controls s b lane) host sub step x
    (pair0 (col nan s.lanes lane pairs)) (pair1 (col nan s.lanes lane pairs)) (col nan s.lanes lane last 0)

-- `frame` counts rendered frames from the range's start
abbrev pub sample_called : Settings → ℕ → Range → ℕ → ℕ → Float → ControlBuffers → List Float → List Float → Shaped
sample_called s lane r frame = sample_from s lane (r.first + frame / s.factor) (frame % s.factor)

pub record SampleCall (s : Settings) (active lane : ℕ) (r : Range) (frame step : ℕ) (x : Float) (b : ControlBuffers) (pairs last pairs' last' : List Float) (a : Valued) : Type 0 where
  pub number : a.number ≡ sample_refusal s active lane r frame (control_lengths b) (length pairs) (length last)
  pub frames : a.frames ≡ cond (eqb a.number 0) r.count 0
  pub refused : (a.number ≡ 0 → ⊥) → (a.value ≡ 0f) × (pairs' ≡ pairs) × (last' ≡ last)
  pub value : a.number ≡ 0 → a.value ≡ (sample_called s lane r frame step x b pairs last).y
  pub filters :
      a.number ≡ 0
      → Each s.lanes lane (lane + 1)
      (λ _. put_pairs (sample_called s lane r frame step x b pairs last).pairs0 (sample_called s lane r frame step x b pairs last).pairs1)
      (columns nan s.lanes pairs) (columns nan s.lanes pairs')
  pub kept :
      a.number ≡ 0
      → Each s.lanes lane (lane + 1) (λ _ f. upd f 0 (sample_called s lane r frame step x b pairs last).last)
      (columns nan s.lanes last) (columns nan s.lanes last')
  pub sizes : (length pairs' ≡ length pairs) × (length last' ≡ length last)
