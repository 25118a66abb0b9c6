-- Read lists of two slots without offsets, and a sample of them. Definitions only.
use Rattle.std.specs.Prelude.{ℕ, min, cond, List, ltb, length, get_or, replicate, Float}
use Rattle.floats.specs.F32.{◌⊗◌, 0f}
use Rattle.floats.specs.Steps.{◌>>=◌}
use Rattle.reads.specs.declared.lists.LaneReads.{LaneReads}
use Rattle.reads.specs.Reads.{start_of, outgoing_of, read_sum}
use Rattle.phase.specs.declared.map.Slot.{Slot}
use Rattle.phase.specs.Map.{apply_of}
use Rattle.probe.specs.declared.phases.Slots.{Slots}

abbrev pub slot1 : Slots → Slot
slot1 s = record { mode = s.mode1; character = s.character1 }

abbrev pub slot0 : Slots → Slot
slot0 s = record { mode = s.mode0; character = s.character0 }

-- slot 1 maps first, then slot 0 with half width times inner
unfoldable pub reads_of : List Float → List Float → List Float → Slots → Float → Float → ℕ → LaneReads
reads_of sk ak curve slots half inner word = do
  start ← start_of word
  first ← apply_of sk ak curve (slot1 slots) slots.amount1 half start
  second ← apply_of sk ak curve (slot0 slots) slots.amount0 (half ⊗ inner) first
  outgoing_of second

unfoldable pub reads_or_none : List Float → List Float → List Float → Slots → Float → Float → ℕ → LaneReads
reads_or_none sk ak curve slots half inner word =
    cond (ltb (length curve) 1025) (record { phase = replicate 4 0; gain = replicate 4 0f; count = 0 }) (reads_of sk ak curve slots half inner word)

-- the sum of the reads at the k-th word
unfoldable pub sample_of : List Float → List Float → List Float → List Float → Slots → Float → Float → List ℕ → ℕ → Float
sample_of sk ak curve cycle slots half inner words k = read_sum cycle (reads_of sk ak curve slots half inner (get_or words k 0))

unfoldable pub run_length : ℕ → ℕ → ℕ → ℕ → ℕ
run_length curve cycle words out = cond (ltb curve 1025) 0 (cond (ltb cycle 2048) 0 (min words out))
