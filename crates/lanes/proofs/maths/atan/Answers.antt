-- `lanes::atan` meets its contract.
use mathlib.Core.Path.{◌≡◌}
use borrow.Author.Rules.{rules}
use lib.ListN.{length}
use Rattle.floats.specs.Steps.{steps}
use Rattle.lanes.specs.Maths.{atan_of}
use Rattle.lanes.proofs.Polynomials.{from}
use Rattle.lanes.proofs.maths.atan.Goals as goal

pub returns : goal.returns
unfolding atan_of
returns c =
    let n : length c.args.numbers.atan ≡ 8 = search rules in
    let p = from _ _ 7 n c.polynomial-p.ensures in
    search steps depth 12
