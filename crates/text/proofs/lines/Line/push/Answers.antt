-- One byte more is the buffer's law. Assumes nothing.
use Rattle.std.proofs.Common.{arith}
use Rattle.std.proofs.lemmas.Bool.{eqb-true, eqb-false}
use Rattle.text.proofs.BufferLaws.{line_ends, line_full, line_grows}
use Rattle.text.proofs.lines.Line.push.Goals as goal

pub returns-then-self-clause-after : goal.returns-then-self-clause-after
returns-then-self-clause-after c = rw c.if-self.true (line_ends _ _ (omega arith) _ _ c.begun-self.ensures.value (eqb-true _ _ c.if-self.true))

pub returns-then-self-lt-KEPT-clause-after : goal.returns-then-self-lt-KEPT-clause-after
returns-then-self-lt-KEPT-clause-after c = rw c.if-self.false (line_grows _ _ (omega arith) _ _ c.begun-self.ensures.value (eqb-false _ _ c.if-self.false) c.if-self-lt-KEPT.true)

pub returns-else-self-lt-KEPT-clause-after : goal.returns-else-self-lt-KEPT-clause-after
returns-else-self-lt-KEPT-clause-after c = rw c.if-self.false (line_full _ _ (omega arith) _ _ c.begun-self.ensures.value (eqb-false _ _ c.if-self.false) (omega (arith, c.if-self-lt-KEPT.false)))
