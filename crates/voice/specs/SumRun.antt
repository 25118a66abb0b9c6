-- The phase stage, summed. Definitions only.
use Rattle.std.specs.Prelude.{ℕ, Option, Some, None, List, Float}
use Rattle.lanes.specs.Word.{add_words}
use Rattle.reads.specs.Reads.{read_sum}
use Rattle.voice.specs.declared.control.Control.{Control}
use Rattle.voice.specs.declared.phase_run.Offset.{Offset}
use Rattle.voice.specs.declared.phase_run.Reads.{Reads}
use Rattle.voice.specs.declared.sum_run.Slide.{Slide}
use Rattle.voice.specs.declared.sum_run.Summed.{Summed}
use Rattle.voice.specs.PhaseRun.{offset_if}

-- how a slot moves the reads, as `moved_of` has it
abbrev pub slide_by : Option Offset → Float → Slide
slide_by None carry = record { word = None; carry = carry }
slide_by (Some offset) carry = record { word = Some offset.word; carry = offset.carry }

unfoldable pub slide_of : ℕ → Control → Float → Float → Float → Slide
slide_of mode control scale increment carry = slide_by (offset_if mode control scale increment carry) carry

-- how both slots move them
unfoldable pub both_of : Option ℕ → Option ℕ → Option ℕ
both_of None None = None
both_of None (Some word0) = Some (add_words 0 word0)
both_of (Some word1) None = Some (add_words word1 0)
both_of (Some word1) (Some word0) = Some (add_words word1 word0)

-- the sum of the reads, with both slots' carry
unfoldable pub summed_of : List Float → Reads → Summed
summed_of cycle reads = record { x = read_sum cycle reads.reads; fm0 = reads.fm0; fm1 = reads.fm1 }
