-- `phase::edge_of` meets its contract.
use Rattle.floats.specs.Steps.{given, step}
use Rattle.phase.specs.Quantise.{edge_of}
use Rattle.phase.proofs.quantise.edge_of.Goals as goal

pub returns : goal.returns
unfolding edge_of
returns c =
    rw (given c.signed-t.ensures, given c.floor.ensures, step, step, given c.line_of-line.ensures, step, given c.abs.ensures, given c.abs-2.ensures, given c.above-at_end.ensures, given c.pick-distance.ensures, given c.pick-left.ensures, given c.pick-right.ensures, given c.pick.ensures)
