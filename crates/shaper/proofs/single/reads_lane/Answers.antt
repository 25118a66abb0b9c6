-- `single::reads_lane` meets its contract.
use native.Mathlib.Omega.{arith}
use Rattle.shaper.proofs.RefusalLaws.{reads_passed, driven_of_lem, fed_of}
use Rattle.shaper.proofs.CallLaws.{reads_turned_down, reads_done}
use Rattle.shaper.proofs.single.reads_lane.Goals as goal

pub returns-in_err-check_reads : goal.returns-in_err-check_reads
returns-in_err-check_reads c =
    reads_turned_down _ _ _ _ _ _ _ _ _ _ _ _ _ _ _ c.from_residual.ensures.1 (rw c.lengths.ensures at c.in_err-check_reads.ensures)

pub overflow_add-host : goal.overflow_add-host
overflow_add-host c =
    let spot = (driven_of_lem (reads_passed c.lengths.ensures c.in_ok-check_reads.ensures).accepted).spot in
    omega (arith, spot.row, spot.block)

pub reads_taken-reads-requires-clause-fed : goal.reads_taken-reads-requires-clause-fed
reads_taken-reads-requires-clause-fed c = fed_of (reads_passed c.lengths.ensures c.in_ok-check_reads.ensures)

pub returns : goal.returns
returns c =
    let did = c.reads_taken-reads in
    reads_done _ _ _ _ _ _ _ _ _ _ _ _ _ (reads_passed c.lengths.ensures c.in_ok-check_reads.ensures).number did.ensures did.auto.fm
