use Rattle.halfband.specs.Floats.{sections_of}
use Rattle.halfband.specs.Promises.{Run}
use Rattle.halfband.proofs.stage.run.Given as goal

abbrev pub invariant-loop-k : goal.invariant-loop-k
invariant-loop-k g l =
    Run (sections_of l.design) l.lane.lanes l.lane.index l.k l.initial.buffer l.initial.cells l.buffer l.cells
