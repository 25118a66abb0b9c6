-- `floats::floor` meets its contract. `unfolding of_bits` makes the code's constants the numbers of proofs/SmallFloors.antt.
use mathlib.Core.Path.{◌∙◌}
use lib.Ieee.{of_bits}
use Rattle.floats.proofs.SmallFloors.{found_small}
use Rattle.floats.proofs.Read.{held}
use Rattle.floats.proofs.whole.floor.Goals as goal
use Rattle.floats.proofs.whole.floor.Goals.{Start, Then-x-2}

pub returns-then-x-2 : goal.returns-then-x-2
unfolding of_bits
returns-then-x-2 c =
    let i = (goal.at.returns-then-x-2 c).Then-x-2 in
    let s = (goal.at.returns-then-x-2 c).Start in
    c.from_nearest.ensures ∙ found_small s.args.x (held s.args.x s.well_formed.0.1) c.if-x.true i.if-x-2.true
