-- When an amount gives the level (request E6): plain `distort` at it lands within a tolerance of the wanted output. `sk` are the sine's numbers.
-- Definitions only.
use Rattle.std.specs.Prelude.{ℕ, Bool, List, Float}
use Rattle.std.specs.Float.Ieee as Ieee
use Rattle.floats.specs.F32.{◌⊖◌}
use Rattle.floats.specs.Sign.{abs_of}
use Rattle.floats.specs.Steps.{◌>>=◌}
use Rattle.wave.specs.Smooth.{distort_of}
use Rattle.controls.specs.Controls.{percent_of}
use Rattle.files.specs.Patch.{card_amount}

-- how many amounts there are: 0 to 10,000 hundredths of a percent
abbrev pub amounts : ℕ
amounts = 10001

-- an amount as the card makes it: hundredths / 100, kept to 0..100, * 0.01
unfoldable pub amount_of : ℕ → Float
amount_of hundredths = do
  inPercent ← card_amount hundredths
  percent_of inPercent

-- the distance is the f32 difference without its sign; equal to the tolerance is within, NaN never is
unfoldable pub within_of : Float → Float → Float → Bool
within_of wanted tolerance out = do
  distance ← abs_of (out ⊖ wanted)
  Ieee.le distance tolerance

-- whether so many hundredths serve
unfoldable pub within_at : List Float → ℕ → Float → Float → Float → ℕ → Bool
within_at sk mode sample wanted tolerance hundredths = do
  a ← amount_of hundredths
  out ← distort_of sk mode a sample
  within_of wanted tolerance out
