-- A rendered frame as the code takes it, with what holds for a whole host frame worked out before; what its steps ask for, and what a run
-- of frames promises. Definitions only.
use Rattle.std.specs.Prelude.{◌≡◌, List, ℕ, ◌+◌, ◌*◌, ◌/◌, ◌≤◌, ◌<◌, length, get_or, Float}
use Rattle.std.proofs.Math.Option.{Option, none}
use Rattle.std.specs.Float.{nan}
use Rattle.floats.specs.Steps.{◌>>=◌}
use Rattle.grid.specs.Functions.{span}
use Rattle.grid.specs.Cells.{columns}
use Rattle.grid.specs.Lanes.{Each}
use Rattle.limits.specs.Lengths.{sub_block, host_length, span_length, Holds}
use Rattle.halfband.specs.declared.design.Designs.{Designs}
use Rattle.phase.specs.declared.map.Slot.{Slot}
use Rattle.reads.specs.Reads.{cycle_at}
use Rattle.voice.specs.declared.control.Control.{Control}
use Rattle.voice.specs.PhaseRun.{fm_scale, reads_of}
use Rattle.voice.specs.SumRun.{summed_of}
use Rattle.voice.specs.WaveRun.{shaped_of}
use Rattle.voice.specs.Power.{power_of}
use Rattle.controls.specs.Controls.{amount_at, heard_at}
use Rattle.controls.specs.Places.{Spot}
use Rattle.shaper.specs.declared.settings.Settings.{Settings}
use Rattle.render.specs.declared.state.BlockSettings.{BlockSettings}
use Rattle.render.specs.declared.state.Voice.{Voice}
use Rattle.render.specs.declared.state.Stepped.{Stepped}
use Rattle.render.specs.declared.state.Drive.{Drive}
use Rattle.render.specs.declared.state.HostFrame.{HostFrame}
use Rattle.render.specs.Lane.{Inputs, voice_after, sample_at}

-- one rendered frame, from what drives the slots, the prepared slope, the phase word and its step
unfoldable pub frame_of : Settings → Float → List Float → List Float → Control → Control → Float → ℕ → ℕ → Voice → Stepped
frame_of s scale curve cycle control0 control1 inner word step v = do
  raw ← summed_of cycle (reads_of s.numbers.sin s.numbers.atan curve s.slot0 s.slot1 s.factor scale control0 control1 inner word step v.fm0 v.fm1)
  shaped ← shaped_of s.numbers.sin s.slot0 s.slot1 control0 control1 step raw.x v.pairs0 v.pairs1 v.last
  record {
    sample = shaped.y;
    voice = record { pairs0 = shaped.pairs0; pairs1 = shaped.pairs1; fm0 = raw.fm0; fm1 = raw.fm1; last = shaped.last };
  }

-- r is the frame of one read and two slots without a state, whatever the sine's numbers and the step
pub record Levelled (r : Stepped) (slot0 slot1 : Slot) (cycle : List Float) (control0 control1 : Control) (word : ℕ) (v : Voice) : Type 0 where
  pub stepped : (sk : List Float) (step : ℕ) → r ≡ (shaped_of sk slot0 slot1 control0 control1 step (cycle_at cycle word) v.pairs0 v.pairs1 v.last >>= λ shaped. record {
    sample = shaped.y;
    voice = record { pairs0 = shaped.pairs0; pairs1 = shaped.pairs1; fm0 = v.fm0; fm1 = v.fm1; last = shaped.last };
  })

-- a slot's amount at a host frame, and its power at that amount
unfoldable pub drive_at : ℕ → Float → Option (List Float) → ℕ → Drive
drive_at mode base modulation host =
    record { amount = amount_at base modulation host; power = power_of mode (amount_at base modulation host) }

-- what holds for a whole host frame
unfoldable pub host_at : Settings → Float → Float → Option (List Float) → Option (List Float) → List Float → ℕ → HostFrame
host_at s base0 base1 mod0 mod1 inner host =
    record {
      drive0 = drive_at s.slot0.mode base0 mod0 host;
      drive1 = drive_at s.slot1.mode base1 mod1 host;
      inner = get_or inner (host / sub_block) nan;
    }

-- a slot's amount, and what it hears
abbrev pub heard_control : ℕ → Settings → Float → Option (List Float) → Float → ℕ → ℕ → Control
heard_control mode s amount source last host sub =
    record { amount = amount; source = heard_at mode s.factor s.frames source last host sub }

-- rendered frame `sub` of host frame `host`
unfoldable pub frame_at : Settings → Float → HostFrame → Option (List Float) → Option (List Float) → List Float → List Float → List ℕ → List ℕ → ℕ → ℕ → Voice → Stepped
frame_at s scale h source0 source1 curve cycle words steps host sub v = do
  control0 ← heard_control s.slot0.mode s h.drive0.amount source0 v.last host sub
  control1 ← heard_control s.slot1.mode s h.drive1.amount source1 v.last host sub
  frame_of s scale curve cycle control0 control1 h.inner (get_or words (host * s.factor + sub) 0) (get_or steps (host * s.factor + sub) 0) v

-- ---- what is asked for

-- the powers are those of the amounts
pub record Powered (s : Settings) (h : HostFrame) : Type 0 where
  pub power0 : h.drive0.power ≡ power_of s.slot0.mode h.drive0.amount
  pub power1 : h.drive1.power ≡ power_of s.slot1.mode h.drive1.amount

-- what drives a lane's slots where they have no modulation
pub record Stills (s : Settings) (lane : ℕ) (base0 base1 : List Float) (still0 still1 : Drive) : Type 0 where
  pub first : still0 ≡ drive_at s.slot0.mode (get_or base0 lane nan) none 0
  pub second : still1 ≡ drive_at s.slot1.mode (get_or base1 lane nan) none 0

-- a host frame of a lane
pub record Hosted (s : Settings) (lane host base0 base1 mod0 mod1 inner : ℕ) : Type 0 where
  pub spot : Spot s.frames s.lanes lane host
  pub first : s.lanes ≤ base0
  pub second : s.lanes ≤ base1
  pub held0 : Holds (host_length s.frames s.lanes) mod0
  pub held1 : Holds (host_length s.frames s.lanes) mod1
  pub spans : span_length s.frames s.lanes ≤ inner

-- a rendered frame of a lane: its cells of words and steps are there. 4,096 host frames at factor 8 are 32,768 rendered, which are 2,097,152 cells
-- of 64 lanes
pub record Framed (s : Settings) (lane host sub source0 source1 words steps : ℕ) : Type 0 where
  pub spot : Spot s.frames s.lanes lane host
  pub held0 : Holds (host_length s.frames s.lanes) source0
  pub held1 : Holds (host_length s.frames s.lanes) source1
  pub inside : host * s.factor + sub < s.frames * s.factor
  pub few : s.frames * s.factor ≤ 32768
  pub near : (host * s.factor + sub) * s.lanes + lane < 2097152
  pub word : (host * s.factor + sub) * s.lanes + lane < words
  pub step : (host * s.factor + sub) * s.lanes + lane < steps

-- the work rows of a host frame
pub record Room (s : Settings) (lane host row work : ℕ) : Type 0 where
  pub spot : Spot s.frames s.lanes lane host
  pub most : s.factor ≤ 8
  pub few : row + s.factor ≤ 32768
  pub rows : (row + s.factor) * s.lanes ≤ work

-- ---- what is promised

-- k rendered frames from q on are in the lane's work rows from `row` on, and v' is its state after them
pub record Frames (b : BlockSettings) (i : Inputs) (lane q row k : ℕ) (v v' : Voice) (work work' : List Float) : Type 0 where
  pub size : length work' ≡ length work
  pub voice : v' ≡ voice_after b i q v k
  pub rows :
      Each b.shaper.lanes lane (lane + 1) (λ _. span row k (sample_at b i q v))
      (columns nan b.shaper.lanes work) (columns nan b.shaper.lanes work')

-- the same of every block with these settings and this reach of FM: of a block's rate and designs no frame takes more
abbrev pub Ran : Settings → Float → Inputs → ℕ → ℕ → ℕ → ℕ → Voice → Voice → List Float → List Float → Type 0
Ran s scale i lane q row k v v' work work' =
    (rate : ℕ) (designs : Designs) → scale ≡ fm_scale rate s.factor
    → Frames (record { shaper = s; rate = rate; designs = designs }) i lane q row k v v' work work'
