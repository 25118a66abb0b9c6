-- A point of a picture: where it reads, and what its reads add up to. Definitions only.
use Rattle.std.specs.Prelude.{ℕ, ◌*◌, ◌/◌, ◌^◌, ◌≡◌, List, pos, Option, Float}
use Rattle.std.specs.Float.Ieee as Ieee
use Rattle.std.specs.Float.{binary32}
use Rattle.floats.specs.F32.{◌⊘◌, 0f, 1f, 100f}
use Rattle.floats.specs.Steps.{◌>>=◌, when◌then◌else◌}
use Rattle.lanes.specs.Maths.{clamp_of}
use Rattle.curve.specs.Curve.{steepest_of}
use Rattle.reads.specs.declared.lists.ReadList.{ReadList}
use Rattle.reads.specs.Reads.{start_of}
use Rattle.slope.specs.Slope.{stretch_of}
use Rattle.phase.specs.declared.setting.MapSetting.{MapSetting}
use Rattle.phase.specs.Sums.{apply_if, all_products}
use Rattle.voice.specs.PhaseRun.{in_phase}

-- (self.slots[slot].amount / 100.0).clamp(0.0, 1.0)
unfoldable pub amount_of : Float → Float
amount_of percent = clamp_of (percent ⊘ 100f) 0f 1f

-- (i as f64 / len as f64 * CYCLE) as u64 as u32: up to 4,096 points the f64s lose nothing
unfoldable pub word_at : ℕ → ℕ → ℕ
word_at points i = i * 2 ^ 32 / points

-- 1.0 / len as f32
unfoldable pub increment_of : ℕ → Float
increment_of points = 1f ⊘ Ieee.of_int binary32 (pos points)

-- the mode's slope is the same with s as with the curve's steepest
pub record Steepest (mode : ℕ) (curve : List Float) (s : Float) : Type 0 where
  pub alike : (a : Float) → stretch_of mode a s ≡ stretch_of mode a (steepest_of curve)

-- slot 1's steepest slope, and 1 where it isn't in the phase stage
unfoldable pub inner_of : ℕ → Float → List Float → Float
inner_of mode a curve = when in_phase mode then stretch_of mode a (steepest_of curve) else 1f

-- slot 1's map, then slot 0's, where they have one
unfoldable pub drawn_reads : List Float → List Float → List Float → Option MapSetting → Option MapSetting → ℕ → ReadList
drawn_reads sk ak curve map0 map1 word = do
  start ← start_of word
  list1 ← apply_if sk ak curve map1 start
  apply_if sk ak curve map0 list1

-- (0..list.count).map(|r| list.gain[r] * wave.read(list.word[r])).sum(), added up from the first product on
unfoldable pub point_of : List Float → List Float → List Float → List Float → Option MapSetting → Option MapSetting → ℕ → Float
point_of sk ak curve cycle map0 map1 word = do
  list ← drawn_reads sk ak curve map0 map1 word
  all_products cycle list
