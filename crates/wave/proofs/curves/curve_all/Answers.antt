-- `curves::curve_all` meets its contract.
use Rattle.std.proofs.Common.{◌≡◌, length, arith}
use Rattle.grid.proofs.RunLaws.{ran_done}
use Rattle.wave.specs.Curve.{curves_of}
use Rattle.wave.proofs.curves.curve_all.Goals as goal

pub returns : goal.returns
unfolding curves_of
returns c =
    let whole : c.loop-x.x-index ≡ length c.args.xs.now = omega (arith, c.loop-x.invariant.long) in
    ran_done _ _ _ (rw whole at c.loop-x.invariant)
