-- The wave stage of one lane at one rendered frame: `WaveRun` of mod.rs, its filter pairs and `last` in and out by value. Definitions only.
use Rattle.std.specs.Prelude.{ℕ, ◌≡◌, Bool, not, ◌||◌, ◌&&◌, List, Float}
use Rattle.floats.specs.Steps.{◌>>=◌, when◌then◌else◌}
use Rattle.lanes.specs.Word.{signed_of}
use Rattle.phase.specs.declared.map.Slot.{Slot}
use Rattle.wave.specs.declared.filters.Svf.{Svf}
use Rattle.wave.specs.declared.filters.Filtered.{Filtered}
use Rattle.wave.specs.Slot.{in_wave, is_level, setting_of, shape_of}
use Rattle.voice.specs.declared.control.Control.{Control}
use Rattle.voice.specs.declared.wave_run.Shaped.{Shaped}
use Rattle.voice.specs.PhaseRun.{is_own}

-- whether `last` keeps the raw sample: a slot is in the wave stage, and a slot's source is `Own`
unfoldable pub tracks : ℕ → ℕ → Bool
tracks mode0 mode1 = (in_wave mode0 || in_wave mode1) && (is_own mode0 || is_own mode1)

-- one slot of `shape_of`; a slot that is not in the wave stage has no setting and leaves the sample
unfoldable pub slot_of : List Float → Slot → Control → Float → Float → Svf → Filtered
slot_of sk slot control increment x state = do
  setting ← setting_of slot.mode control.amount slot.character control.source
  shape_of sk slot.mode setting increment x state

-- a filter or a distortion
unfoldable pub has_state : ℕ → Bool
has_state mode = in_wave mode && not (is_level mode)

-- y is what a slot without a state makes of x: it leaves any state
abbrev pub Passes : Float → Slot → Control → Float → Type 0
Passes y slot control x = (sk : List Float) (increment : Float) (state : Svf) → record { y = y; state = state } ≡ slot_of sk slot control increment x state

-- `shape_at_lane`: slot 0, then slot 1; increment as i32 as f32 * PER_CYCLE is `signed_of`
unfoldable pub shaped_of : List Float → Slot → Slot → Control → Control → ℕ → Float → Svf → Svf → Float → Shaped
shaped_of sk slot0 slot1 control0 control1 step x pairs0 pairs1 last = do
  increment ← signed_of step
  kept ← when tracks slot0.mode slot1.mode then x else last
  first ← slot_of sk slot0 control0 increment x pairs0
  second ← slot_of sk slot1 control1 increment first.y pairs1
  record { y = second.y; pairs0 = first.state; pairs1 = second.state; last = kept }

-- r is what two slots without a state make of x, whatever the sine's numbers and the step
abbrev pub ShapedBy : Shaped → Slot → Slot → Control → Control → Float → Svf → Svf → Float → Type 0
ShapedBy r slot0 slot1 control0 control1 x pairs0 pairs1 last = (sk : List Float) (step : ℕ) → r ≡ shaped_of sk slot0 slot1 control0 control1 step x pairs0 pairs1 last
