-- `Cycle::sum` meets its contract: one way of the code for each count.
use mathlib.Core.Path.{◌≡◌}
use native.Mathlib.Omega.{arith}
use borrow.Author.Tests.{eq-eqb}
use Rattle.reads.specs.Reads.{sum_to, read_sum}
use Rattle.reads.proofs.cycle.Cycle.sum.Goals as goal

pub returns-then-count-eq0 : goal.returns-then-count-eq0
unfolding read_sum
returns-then-count-eq0 c = rw (eq-eqb _ _ c.if-count-eq0.true) c.read.ensures

pub returns-then-count-eq1 : goal.returns-then-count-eq1
unfolding read_sum sum_to
returns-then-count-eq1 c = rw (c.if-count-eq1.true, c.read-2.ensures)

pub returns-then-count-eq2 : goal.returns-then-count-eq2
unfolding read_sum sum_to
returns-then-count-eq2 c = rw (c.if-count-eq2.true, c.read-3.ensures, c.read-2.ensures)

pub returns-then-count-eq3 : goal.returns-then-count-eq3
unfolding read_sum sum_to
returns-then-count-eq3 c = rw (c.if-count-eq3.true, c.read-4.ensures, c.read-3.ensures, c.read-2.ensures)

pub returns : goal.returns
unfolding read_sum sum_to
returns c =
    let e : c.args.reads.count ≡ 4 = omega arith in
    rw (e, c.read-5.ensures, c.read-4.ensures, c.read-3.ensures, c.read-2.ensures)
