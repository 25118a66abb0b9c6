-- `lanes::sin_cycles` meets its contract.
use mathlib.Core.Path.{◌≡◌}
use borrow.Author.Rules.{rules}
use lib.ListN.{length}
use Rattle.floats.specs.Steps.{steps}
use Rattle.lanes.specs.Maths.{sin_cycles}
use Rattle.lanes.proofs.Polynomials.{from}
use Rattle.lanes.proofs.maths.sin_cycles.Goals as goal

pub returns : goal.returns
unfolding sin_cycles
returns c =
    let n : length c.args.numbers.sin ≡ 5 = search rules in
    let p = from _ _ 4 n c.polynomial-p.ensures in
    search steps depth 12
