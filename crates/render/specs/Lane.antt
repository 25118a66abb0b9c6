-- One lane of a block, rendered frame by rendered frame: a read list, the sum of its reads and the shaped sample. Nothing here speaks of
-- another lane. `q` counts the block's rendered frames. Definitions only.
use Rattle.std.specs.Prelude.{ℕ, zero, suc, ◌+◌, ◌*◌, ◌/◌, ◌%◌, List, get_or, take, Float}
use Rattle.std.specs.Float.{nan}
use Rattle.floats.specs.Steps.{◌>>=◌}
use Rattle.grid.specs.Cells.{column}
use Rattle.limits.specs.Lengths.{spans_of, curve_length, cycle_length}
use Rattle.reads.specs.Reads.{read_sum}
use Rattle.controls.specs.Controls.{Controls, ControlBuffers}
use Rattle.shaper.specs.declared.settings.Settings.{Settings}
use Rattle.shaper.specs.declared.settings.Range.{Range}
use Rattle.shaper.specs.Lane.{lane_controls, reads_at, shaped_at, pair0, pair1}
use Rattle.render.specs.declared.state.BlockSettings.{BlockSettings}
use Rattle.render.specs.declared.state.Voice.{Voice}
use Rattle.render.specs.declared.state.Stepped.{Stepped}

-- all buffers that a block run is lent to read
pub record Lent : Type 0 where
  pub controls : ControlBuffers
  pub curve : List Float
  pub cycle : List Float
  pub words : List ℕ
  pub steps : List ℕ
  pub inner : List Float

-- a lane's numbers in them, in just the rows and cells that line 7 asks for: what drives its slots, its prepared span, its phase words
-- and steps, and the two tables
pub record Inputs : Type 0 where
  pub controls : Controls
  pub inner : List Float
  pub words : List ℕ
  pub steps : List ℕ
  pub curve : List Float
  pub cycle : List Float

unfoldable pub inputs_of : Settings → Lent → ℕ → Inputs
inputs_of s r lane =
    record {
      controls = lane_controls s r.controls lane;
      inner = column nan s.lanes lane (spans_of s.frames) r.inner;
      words = column 0 s.lanes lane (s.frames * s.factor) r.words;
      steps = column 0 s.lanes lane (s.frames * s.factor) r.steps;
      curve = take curve_length r.curve;
      cycle = take cycle_length r.cycle;
    }

-- the same with the tables whole
unfoldable pub inputs_in : Settings → Lent → ℕ → Inputs
inputs_in s r lane =
    record {
      controls = lane_controls s r.controls lane;
      inner = column nan s.lanes lane (spans_of s.frames) r.inner;
      words = column 0 s.lanes lane (s.frames * s.factor) r.words;
      steps = column 0 s.lanes lane (s.frames * s.factor) r.steps;
      curve = r.curve;
      cycle = r.cycle;
    }

-- a lane's filter pairs, FM carry and `last`, from its columns
abbrev pub voice_of : (ℕ → Float) → (ℕ → Float) → (ℕ → Float) → Voice
voice_of pairs fm last = record { pairs0 = pair0 pairs; pairs1 = pair1 pairs; fm0 = fm 0; fm1 = fm 1; last = last 0 }

-- rendered frame q
unfoldable pub step_at : BlockSettings → Inputs → ℕ → Voice → Stepped
step_at b i q v = do
  reads ← reads_at b.shaper b.rate i.controls i.curve i.inner (q / b.shaper.factor) (q % b.shaper.factor)
      (get_or i.words q 0) (get_or i.steps q 0) v.fm0 v.fm1 v.last
  x ← read_sum i.cycle reads.reads
  shaped ← shaped_at b.shaper i.controls (q / b.shaper.factor) (q % b.shaper.factor) (get_or i.steps q 0) x v.pairs0 v.pairs1 v.last
  record {
    sample = shaped.y;
    voice = record { pairs0 = shaped.pairs0; pairs1 = shaped.pairs1; fm0 = reads.fm0; fm1 = reads.fm1; last = shaped.last };
  }

-- the state after k rendered frames from q on
unfoldable pub voice_after : BlockSettings → Inputs → ℕ → Voice → ℕ → Voice
voice_after b i q v zero = v
voice_after b i q v (suc k) = (step_at b i (q + k) (voice_after b i q v k)).voice

-- and the sample of rendered frame q + k
unfoldable pub sample_at : BlockSettings → Inputs → ℕ → Voice → ℕ → Float
sample_at b i q v k = (step_at b i (q + k) (voice_after b i q v k)).sample

-- the range's rendered frames in the block
abbrev pub first_frame : BlockSettings → Range → ℕ
first_frame b r = r.first * b.shaper.factor

abbrev pub frame_count : BlockSettings → Range → ℕ
frame_count b r = r.count * b.shaper.factor
