-- `single::shape_at_lane` meets its contract.
use native.Mathlib.Omega.{arith}
use Rattle.shaper.proofs.RefusalLaws.{sample_passed, driven_of_lem}
use Rattle.shaper.proofs.CallLaws.{sample_turned_down, sample_done}
use Rattle.shaper.proofs.single.shape_at_lane.Goals as goal

pub returns-in_err-check_sample : goal.returns-in_err-check_sample
returns-in_err-check_sample c =
    sample_turned_down _ _ _ _ _ _ _ _ _ _ _ _ c.from_residual.ensures.1 (rw c.lengths.ensures at c.in_err-check_sample.ensures)

pub overflow_add-host : goal.overflow_add-host
overflow_add-host c =
    let spot = (driven_of_lem (sample_passed c.lengths.ensures c.in_ok-check_sample.ensures).accepted).spot in
    omega (arith, spot.row, spot.block)

pub sample_taken-value-requires-clause-driven : goal.sample_taken-value-requires-clause-driven
sample_taken-value-requires-clause-driven c =
    driven_of_lem (sample_passed c.lengths.ensures c.in_ok-check_sample.ensures).accepted

pub returns : goal.returns
returns c =
    let did = c.sample_taken-value in
    sample_done _ _ _ _ _ _ _ _ _ _ (sample_passed c.lengths.ensures c.in_ok-check_sample.ensures).number did.ensures did.auto.pairs did.auto.last
