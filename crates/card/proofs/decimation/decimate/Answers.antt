-- `decimation::decimate` meets its contract.
use mathlib.Core.Path.{sym}
use Rattle.std.specs.Prelude.{slice_index}
use Rattle.limits.specs.Refusals.{number_of}
use Rattle.limits.proofs.LengthLaws.{long_enough}
use Rattle.halfband.specs.Floats.{designs_of}
use Rattle.halfband.proofs.RefusalLaws.{accepted}
use Rattle.halfband.proofs.DecimatedLaws.{turned_down_lem, of_slice}
use Rattle.card.proofs.decimation.decimate.Goals as goal

pub returns-in_err-check : goal.returns-in_err-check
unfolding designs_of
returns-in_err-check c = turned_down_lem _ _ _ _ _ _ _ _ _ _ c.from_residual.ensures.1 c.in_err-check.ensures

pub designs_of-requires : goal.designs_of-requires
unfolding designs_of number_of
designs_of-requires c =
    let n = c.args.counts in
    long_enough _ _ (accepted (designs_of c.args.coefs.now (slice_index n 0) (slice_index n 1) (slice_index n 2)) _ _ _ _ _ _ _ (sym c.in_ok-check.ensures)).read

pub returns : goal.returns
unfolding designs_of number_of
returns c = of_slice _ _ _ _ _ _ _ _ (sym c.in_ok-check.ensures) (rw c.designs_of.ensures at c.process.ensures)
