-- A block run's numbers where they come one by one, and its coefficients and sine and arctangent numbers on slices. Definitions only.
use Rattle.std.specs.Prelude.{List, ℕ, take, drop, Float}
use Rattle.lanes.specs.declared.maths.Numbers.{Numbers}
use Rattle.halfband.specs.Floats.{designs_of}
use Rattle.shaper.specs.declared.settings.Range.{Range}
use Rattle.render.specs.declared.state.BlockSettings.{BlockSettings}

-- the sine's five numbers, then the arctangent's eight
unfoldable pub numbers_of : List Float → Numbers
numbers_of xs = record { sin = take 5 xs; atan = take 8 (drop 5 xs) }

unfoldable pub settings_of : ℕ → ℕ → Float → Float → ℕ → ℕ → ℕ → ℕ → ℕ → ℕ → ℕ → List Float → List Float → BlockSettings
settings_of mode0 mode1 character0 character1 factor lanes frames rate count0 count1 count2 coefs numbers =
    record {
      shaper =
          record {
            slot0 = record { mode = mode0; character = character0 };
            slot1 = record { mode = mode1; character = character1 };
            factor = factor;
            lanes = lanes;
            frames = frames;
            numbers = numbers_of numbers;
          };
      rate = rate;
      designs = designs_of coefs count0 count1 count2;
    }

abbrev pub range_of : ℕ → ℕ → Range
range_of first count = record { first = first; count = count }
