-- What the decimator asks of the settings of an accepted block run. Assumes nothing.
use mathlib.Core.Path.{◌≡◌}
use Prim.Native.Nat.{ℕ, ◌^◌, ◌≤◌, ◌<◌}
use Rattle.halfband.specs.Floats.{design_of}
use Rattle.halfband.specs.Halfband.{stages_of}
use Rattle.shaper.specs.declared.settings.Range.{Range}
use Rattle.render.specs.declared.state.BlockSettings.{BlockSettings}
use Rattle.render.specs.Promises.{Limits}

pub record Good (b : BlockSettings) : Type 0 where
  pub stages : stages_of b.shaper.factor ≤ 3
  pub power : b.shaper.factor ≡ 2 ^ stages_of b.shaper.factor
  pub counts : (j : ℕ) → j < 3 → (design_of b.designs j).count ≤ 12

pub good : {b : BlockSettings} {r : Range} → Limits b r → Good b
good l = record { stages = l.stages; power = l.doubled; counts = l.counts }
