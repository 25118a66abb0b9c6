use Rattle.halfband.specs.Promises.{Stored}
use Rattle.halfband.proofs.stage.store.Given as goal

abbrev pub invariant-loop-i : goal.invariant-loop-i
invariant-loop-i l = Stored l.block l.lane.lanes l.lane.index l.i l.cells l.initial.state l.state
