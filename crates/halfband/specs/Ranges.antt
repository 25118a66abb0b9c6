-- A lane's block as a list of consecutive ranges, given by their output frames: each range is a call of its own, on the block's
-- samples from where the range before it ended and with the cells that it left. Definitions only.
use Rattle.std.specs.Prelude.{List, [], ◌∷◌, ℕ, ◌+◌, ◌-◌, ◌*◌, ◌^◌}
use Rattle.grid.specs.Functions.{upto}
use Rattle.halfband.specs.Halfband.{Kind, Sections, View, cascade}

-- the samples from m on
abbrev pub from : {A : Type 0} → ℕ → (ℕ → A) → ℕ → A
from m s r = s (m + r)

unfoldable pub total : List ℕ → ℕ
total [] = 0
total (f ∷ fs) = f + total fs

module _ {A : Type 0} (K : Kind A) (Ds : ℕ → Sections A) (s : ℕ) where
  -- one call for f frames
  abbrev pub one : ℕ → (ℕ → A) → (ℕ → ℕ → A) → View A
  one f samples cells = cascade K Ds s f (record { rows = samples; cells = cells })

  -- the cells that the last range leaves
  unfoldable pub cells_after : List ℕ → (ℕ → A) → (ℕ → ℕ → A) → ℕ → ℕ → A
  cells_after [] samples cells = cells
  cells_after (f ∷ fs) samples cells = cells_after fs (from (f * 2 ^ s) samples) (one f samples cells).cells

  -- output frame r of the block, as the range that holds it leaves it
  unfoldable pub outputs : List ℕ → (ℕ → A) → (ℕ → ℕ → A) → ℕ → A
  outputs [] samples cells r = samples r
  outputs (f ∷ fs) samples cells r =
      upto f (one f samples cells).rows (λ i. outputs fs (from (f * 2 ^ s) samples) (one f samples cells).cells (i - f)) r
