use Rattle.std.proofs.Common.{slice_index_or}
use Rattle.std.specs.Float.{nan}
use Rattle.lanes.specs.Maths.{horner}
use Rattle.lanes.proofs.Polynomials.{Left}
use Rattle.lanes.proofs.maths.polynomial.Given as goal

abbrev pub invariant-loop-c : goal.invariant-loop-c
invariant-loop-c l = Left l.k l.x2 (horner l.k l.x2 l.last (slice_index_or l.k l.last nan)) l.c-iterator.iter.rest.now l.p
