-- `Cycle::read` meets its contract.
use mathlib.Core.Path.{◌≡◌}
use Prim.Native.Nat.{ℕ, ◌+◌, ◌/◌, ◌%◌}
use native.Mathlib.Omega.{arith}
use Rattle.floats.specs.Steps.{steps}
use Rattle.lanes.specs.Word.{add_words}
use Rattle.reads.specs.Reads.{cycle_at}
use Rattle.reads.proofs.cycle.Cycle.read.Goals as goal

-- the entry of the word one entry on
next_entry : (word : ℕ) → add_words word 2097152 / 2097152 ≡ (word / 2097152 + 1) % 2048
unfolding add_words
next_entry word = omega arith

pub returns : goal.returns
unfolding cycle_at
returns c = rw (c.add_words.ensures, next_entry _) (search steps)
