-- The two rows are written one after the other.
use Rattle.std.proofs.Common.{rules, append_assoc}
use Rattle.std.proofs.Output.{has_written_append, has_written_of_eq}
use Rattle.plans.specs.Table.{rows_text}
use Rattle.plans.proofs.CellLaws.{padded_cell, bytes_label}
use Rattle.plans.proofs.table.RowsDisplay.fmt.Goals as goal

pub returns-clause-writes : goal.returns-clause-writes
unfolding rows_text
returns-clause-writes g c plain ok =
    let first = c.writeln.ensures.writes plain (search rules) in
    let second = c.writeln-2.ensures.writes first.plain ok in
    has_written_of_eq _ _ _ _ _ (simp (c.laid_out.ensures, c.laid_out-2.ensures, c.of-floats.ensures, c.of-bytes.ensures, padded_cell, bytes_label, append_assoc))
    (has_written_append _ _ _ _ _ _ first second)
