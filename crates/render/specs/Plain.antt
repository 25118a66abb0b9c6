-- A lane that no slot shapes. Definitions only.
use Rattle.std.specs.Prelude.{Bool, not, ◌||◌, ◌&&◌, List, ℕ, ◌+◌, ◌*◌, ◌≤◌, Float}
use Rattle.grid.specs.Cells.{col}
use Rattle.reads.specs.Reads.{cycle_at}
use Rattle.wave.specs.Slot.{in_wave}
use Rattle.voice.specs.PhaseRun.{in_phase}

-- no slot is in a stage
unfoldable pub is_plain : ℕ → ℕ → Bool
is_plain mode0 mode1 = not (in_phase mode0 || in_phase mode1) && not (in_wave mode0 || in_wave mode1)

-- the cycle at lane l's word of rendered frame from + k
unfoldable pub cycle_read : ℕ → ℕ → ℕ → List Float → List ℕ → ℕ → Float
cycle_read from n l cycle words k = cycle_at cycle (col 0 n l words (from + k))

-- what a run of such frames asks for
pub record Unshaped (from count n words work : ℕ) : Type 0 where
  pub frames : from + count ≤ 32768
  pub read : (from + count) * n ≤ words
  pub written : count * n ≤ work
