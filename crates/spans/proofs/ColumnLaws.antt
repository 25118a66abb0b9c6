-- A lane's rows in a lent buffer, and the rate of its rendered frames. Assumes nothing.
use mathlib.Core.Path.{◌≡◌, sym}
use mathlib.Core.List.{List}
use Prim.Native.Nat.{ℕ, ◌+◌, ◌*◌, ◌≤◌, ◌<◌}
use native.Mathlib.Nat.{mul-le-mul}
use lib.ListN.{get_or}
use lib.Ieee.{Float, nan}
use Rattle.grid.specs.Cells.{column}
use Rattle.controls.proofs.LentLaws as Lent

-- what is read in a row
pub row_read : (frames n lane : ℕ) (xs : List Float) (r : ℕ) → r < frames
    → get_or xs (r * n + lane) nan ≡ get_or (column nan n lane frames xs) r nan
row_read frames n lane xs r h = sym (Lent.row_read frames n lane r xs h)

pub small_rate : (rate factor : ℕ) → rate ≤ 192000 → factor ≤ 8 → rate * factor ≤ 1536000
small_rate rate factor hr hf = mul-le-mul hr hf
