-- One lane at one rendered frame, from its inputs and its state. `host` is the host frame of the block that it falls in, `sub` counts the
-- rendered frames of a host frame. Definitions only.
use Rattle.std.specs.Prelude.{ℕ, ◌+◌, ◌/◌, List, get_or, Float}
use Rattle.std.specs.Float.{nan}
use Rattle.floats.specs.Steps.{◌>>=◌}
use Rattle.grid.specs.Functions.{upd}
use Rattle.wave.specs.declared.filters.Svf.{Svf}
use Rattle.voice.specs.declared.control.Control.{Control}
use Rattle.voice.specs.declared.phase_run.Reads.{Reads}
use Rattle.voice.specs.declared.wave_run.Shaped.{Shaped}
use Rattle.voice.specs.PhaseRun.{fm_scale, reads_of}
use Rattle.voice.specs.WaveRun.{shaped_of}
use Rattle.limits.specs.Lengths.{sub_block}
use Rattle.controls.specs.Controls.{Controls, ControlBuffers, controls_of, control_at}
use Rattle.shaper.specs.declared.settings.Settings.{Settings}

-- a lane's inputs in the rows that line 7 asks for
abbrev pub lane_controls : Settings → ControlBuffers → ℕ → Controls
lane_controls s b lane = controls_of s.lanes lane s.frames b

-- what drives slot 0 and slot 1. No mode of the wave stage reads `last` (voice.proofs.NotOwn), so it makes no difference that the Rust
-- stores the raw sample there before that stage
unfoldable pub control0_at : Settings → Controls → Float → ℕ → ℕ → Control
control0_at s c last host sub = control_at s.slot0.mode s.factor s.frames c.base0 c.mod0 c.source0 last host sub

unfoldable pub control1_at : Settings → Controls → Float → ℕ → ℕ → Control
control1_at s c last host sub = control_at s.slot1.mode s.factor s.frames c.base1 c.mod1 c.source1 last host sub

-- the read list, and the FM carry after it. `inner` is the lane's column of that span, a row for each sub-block
unfoldable pub reads_at : Settings → ℕ → Controls → List Float → List Float → ℕ → ℕ → ℕ → ℕ → Float → Float → Float → Reads
reads_at s rate c curve inner host sub word step fm0 fm1 last = do
  scale ← fm_scale rate s.factor
  control0 ← control0_at s c last host sub
  control1 ← control1_at s c last host sub
  reads_of s.numbers.sin s.numbers.atan curve s.slot0 s.slot1 s.factor scale control0 control1
      (get_or inner (host / sub_block) nan) word step fm0 fm1

-- the sample x shaped, and the filter pairs and `last` after it
unfoldable pub shaped_at : Settings → Controls → ℕ → ℕ → ℕ → Float → Svf → Svf → Float → Shaped
shaped_at s c host sub step x pairs0 pairs1 last = do
  control0 ← control0_at s c last host sub
  control1 ← control1_at s c last host sub
  shaped_of s.numbers.sin s.slot0 s.slot1 control0 control1 step x pairs0 pairs1 last

-- ---- a lane's state in its columns

-- the filter pair in rows `row` and row + 1
abbrev pub pair_in : ℕ → (ℕ → Float) → Svf
pair_in row pairs = record { ic1 = pairs row; ic2 = pairs (row + 1) }

-- that of slot 0 lies in rows 0 and 1, that of slot 1 in rows 2 and 3
abbrev pub pair0 : (ℕ → Float) → Svf
pair0 pairs = pair_in 0 pairs

abbrev pub pair1 : (ℕ → Float) → Svf
pair1 pairs = pair_in 2 pairs

unfoldable pub put_pairs : Svf → Svf → (ℕ → Float) → ℕ → Float
put_pairs p q pairs = upd (upd (upd (upd pairs 0 p.ic1) 1 p.ic2) 2 q.ic1) 3 q.ic2

-- the FM carry of slot 0 lies in row 0, that of slot 1 in row 1
unfoldable pub put_carry : Float → Float → (ℕ → Float) → ℕ → Float
put_carry fm0 fm1 fm = upd (upd fm 0 fm0) 1 fm1
