-- The work of a call that is taken: what it asks for, and what it promises of its buffers. `host` is the host frame of the block, `sub`
-- counts the rendered frames of a host frame. Definitions only.
use Rattle.std.specs.Prelude.{◌≡◌, List, ℕ, ◌+◌, ◌≤◌, Float}
use Rattle.std.specs.Float.{nan}
use Rattle.grid.specs.Functions.{upd}
use Rattle.grid.specs.Cells.{columns}
use Rattle.grid.specs.Lanes.{Each}
use Rattle.limits.specs.declared.lengths.ControlLengths.{ControlLengths}
use Rattle.limits.specs.Lengths.{span_length, ControlsHeld}
use Rattle.reads.specs.declared.lists.LaneReads.{LaneReads}
use Rattle.voice.specs.declared.phase_run.Reads.{Reads}
use Rattle.voice.specs.declared.wave_run.Shaped.{Shaped}
use Rattle.controls.specs.Places.{Spot}
use Rattle.shaper.specs.declared.settings.Settings.{Settings}
use Rattle.shaper.specs.Lane.{put_pairs, put_carry}

-- ---- what is asked for

-- base, modulation and sources at a host frame
pub record Driven (s : Settings) (l : ControlLengths) (lane host : ℕ) : Type 0 where
  pub spot : Spot s.frames s.lanes lane host
  pub controls : ControlsHeld s.frames s.lanes l

-- and what a read list takes besides
pub record Fed (s : Settings) (rate : ℕ) (l : ControlLengths) (lane host inner : ℕ) : Type 0 where
  pub driven : Driven s l lane host
  pub rates : rate ≤ 192000
  pub factor : s.factor ≤ 8
  pub spans : span_length s.frames s.lanes ≤ inner

-- ---- what is promised

-- a read list, and the FM carry stored
pub record ReadsTaken (s : Settings) (lane : ℕ) (called : Reads) (fm fm' : List Float) (reads : LaneReads) : Type 0 where
  pub list : reads ≡ called.reads
  pub carry : Each s.lanes lane (lane + 1) (λ _. put_carry called.fm0 called.fm1) (columns nan s.lanes fm) (columns nan s.lanes fm')

-- a sample, and the filter pairs and `last` stored
pub record SampleTaken (s : Settings) (lane : ℕ) (called : Shaped) (pairs last pairs' last' : List Float) (y : Float) : Type 0 where
  pub value : y ≡ called.y
  pub filters : Each s.lanes lane (lane + 1) (λ _. put_pairs called.pairs0 called.pairs1) (columns nan s.lanes pairs) (columns nan s.lanes pairs')
  pub kept : Each s.lanes lane (lane + 1) (λ _ f. upd f 0 called.last) (columns nan s.lanes last) (columns nan s.lanes last')
