use Rattle.halfband.proofs.ChainLaws.{Linked}
use Rattle.halfband.proofs.stage.frame.Given as goal

abbrev pub invariant-loop-i : goal.invariant-loop-i
invariant-loop-i g l = Linked l.coefs l.initial.cells l.initial.paths l.i l.cells l.paths
