-- `floats::floor_by_sign` meets its contract. `unfolding of_bits` makes the code's constants the numbers of proofs/Floors.antt.
use mathlib.Core.Path.{◌∙◌}
use lib.Ieee.{of_bits}
use Rattle.floats.proofs.Floors.{found, from_up, from_down}
use Rattle.floats.proofs.Read.{held}
use Rattle.floats.proofs.whole.floor_by_sign.Goals as goal
use Rattle.floats.proofs.whole.floor_by_sign.Goals.{After-away-w, Start, Then-x-2}

pub returns-then-x-2 : goal.returns-then-x-2
unfolding of_bits
returns-then-x-2 c =
    let w = (goal.at.returns-then-x-2 c).After-away-w in
    let i = (goal.at.returns-then-x-2 c).Then-x-2 in
    let s = (goal.at.returns-then-x-2 c).Start in
    c.from_nearest.ensures ∙ (rw w.away-w.ensures (found s.args.x (held s.args.x s.well_formed.0.1) c.if-x.true i.if-x-2.true))

pub returns-else-x-2 : goal.returns-else-x-2
unfolding of_bits
returns-else-x-2 c = let s = (goal.at.returns-else-x-2 c).Start in from_down s.args.x (held s.args.x s.well_formed.0.1) c.if-x.true c.if-x-2.false

pub returns-else-x : goal.returns-else-x
unfolding of_bits
returns-else-x c = let s = (goal.at.returns-else-x c).Start in from_up s.args.x (held s.args.x s.well_formed.0.1) c.if-x.false
