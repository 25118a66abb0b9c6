use Rattle.std.proofs.Common.{◌≤◌, length}
use Rattle.files.proofs.ReaderLaws.{Onward}
use Rattle.files.proofs.reader.read_patch.Given as goal

abbrev pub invariant-loop-at : goal.invariant-loop-at
invariant-loop-at l = (l.at ≤ length l.file) × Onward l.file l.at l.slots
