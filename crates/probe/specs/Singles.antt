-- The settings and the range of a call, from its numbers. Definitions only.
use Rattle.std.specs.Prelude.{ℕ, Float}
use Rattle.lanes.specs.declared.maths.Numbers.{Numbers}
use Rattle.shaper.specs.declared.settings.Settings.{Settings}
use Rattle.shaper.specs.declared.settings.Range.{Range}

abbrev pub settings : ℕ → ℕ → Float → Float → ℕ → ℕ → ℕ → Numbers → Settings
settings mode0 mode1 character0 character1 factor lanes frames numbers =
    record {
      slot0 = record { mode = mode0; character = character0 };
      slot1 = record { mode = mode1; character = character1 };
      factor = factor;
      lanes = lanes;
      frames = frames;
      numbers = numbers;
    }

abbrev pub range : ℕ → ℕ → Range
range first count = record { first = first; count = count }
