-- The picture of one shaped cycle: `Shapers::preview` of mod.rs. Definitions only.
use Rattle.std.specs.Prelude.{ℕ, List, Option, Float}
use Rattle.floats.specs.F32.{◌⊗◌, ¼f}
use Rattle.floats.specs.Steps.{◌>>=◌}
use Rattle.grid.specs.Functions.{table}
use Rattle.lanes.specs.declared.maths.Numbers.{Numbers}
use Rattle.phase.specs.declared.map.Slot.{Slot}
use Rattle.phase.specs.declared.setting.MapSetting.{MapSetting}
use Rattle.phase.specs.Setting.{setting_if}
use Rattle.voice.specs.PhaseRun.{in_phase}
use Rattle.preview.specs.Points.{amount_of, word_at, increment_of, inner_of, point_of}
use Rattle.preview.specs.Shaping.{shaped_of}

-- the sums of all points' reads
unfoldable pub read_of : Numbers → List Float → List Float → Option MapSetting → Option MapSetting → ℕ → List Float
read_of numbers curve cycle map0 map1 points = table points (λ i. point_of numbers.sin numbers.atan curve cycle map0 map1 (word_at points i))

-- edges a quarter of a point to each side, slot 0's times `inner`; what is read goes through slot 0 and then slot 1
unfoldable pub picture_of : Numbers → List Float → List Float → Slot → Slot → Float → Float → ℕ → List Float
picture_of numbers curve cycle slot0 slot1 percent0 percent1 points = do
  increment ← increment_of points
  a0 ← amount_of percent0
  a1 ← amount_of percent1
  inner ← inner_of slot1.mode a1 curve
  h1 ← ¼f ⊗ increment
  h0 ← h1 ⊗ inner
  map0 ← setting_if (in_phase slot0.mode) slot0 a0 h0
  map1 ← setting_if (in_phase slot1.mode) slot1 a1 h1
  read ← read_of numbers curve cycle map0 map1 points
  once ← shaped_of numbers.sin slot0 a0 increment read
  shaped_of numbers.sin slot1 a1 increment once
