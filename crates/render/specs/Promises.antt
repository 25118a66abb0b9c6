-- What a render asks for. Definitions only.
use Rattle.std.specs.Prelude.{◌≡◌, List, ℕ, ◌+◌, ◌^◌, ◌<◌, ◌≤◌, length, Float}
use Rattle.limits.specs.Lengths.{rendered_length, span_length, curve_length, cycle_length, ControlsHeld}
use Rattle.controls.specs.Controls.{control_buffers, control_lengths}
use Rattle.halfband.specs.Floats.{design_of}
use Rattle.halfband.specs.Halfband.{stages_of}
use Rattle.shaper.specs.declared.settings.Settings.{Settings}
use Rattle.shaper.specs.declared.settings.Range.{Range}
use Rattle.render.specs.declared.state.BlockSettings.{BlockSettings}
use Rattle.render.specs.Lane.{Lent}

-- the buffers by their lists
abbrev pub lent : List Float → List Float → List Float → List Float → List Float → List Float → List Float → List Float → List ℕ → List ℕ → List Float → Lent
lent base0 base1 mod0 mod1 source0 source1 curve cycle words steps inner =
    record {
      controls = control_buffers base0 base1 mod0 mod1 source0 source1;
      curve = curve;
      cycle = cycle;
      words = words;
      steps = steps;
      inner = inner;
    }

-- numbers within the limits
pub record Limits (b : BlockSettings) (r : Range) : Type 0 where
  pub lanes : b.shaper.lanes ≤ 64
  pub frames : b.shaper.frames ≤ 4096
  pub range : r.first + r.count ≤ b.shaper.frames
  pub factor_least : 1 ≤ b.shaper.factor
  pub factor_most : b.shaper.factor ≤ 8
  pub stages : stages_of b.shaper.factor ≤ 3
  pub doubled : b.shaper.factor ≡ 2 ^ stages_of b.shaper.factor
  pub rate : b.rate ≤ 192000
  pub counts : (j : ℕ) → j < 3 → (design_of b.designs j).count ≤ 12

-- buffers to read that are long enough
pub record Readable (s : Settings) (l : Lent) : Type 0 where
  pub controls : ControlsHeld s.frames s.lanes (control_lengths l.controls)
  pub curve : curve_length ≤ length l.curve
  pub cycle : cycle_length ≤ length l.cycle
  pub words : rendered_length s.frames s.factor s.lanes ≤ length l.words
  pub steps : rendered_length s.frames s.factor s.lanes ≤ length l.steps
  pub inner : span_length s.frames s.lanes ≤ length l.inner
