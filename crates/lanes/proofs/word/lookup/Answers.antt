-- `lanes::lookup` meets its contract: its index is below 1,024.
use Rattle.std.proofs.Common.{◌≤◌, arith}
use Rattle.floats.specs.Steps.{steps}
use Rattle.lanes.specs.Word.{lookup_of}
use Rattle.lanes.proofs.Index.{index_le}
use Rattle.lanes.proofs.word.lookup.Goals as goal
use Rattle.lanes.proofs.word.lookup.Goals.{After-cast_usize-i}

below : (c : After-cast_usize-i) → c.cast_usize-i.result ≤ 1023
below c = rw (c.cast_usize-i.ensures, c.min-whole.ensures) (index_le c.floor.result)

pub returns : goal.returns
unfolding lookup_of
returns c =
    let i = (goal.at.returns c).After-cast_usize-i in
    search (steps, c.clamp-at.ensures, c.floor.ensures, c.min-whole.ensures, i.cast_usize-i.ensures) depth 12

pub overflow_add-result : goal.overflow_add-result
overflow_add-result c = omega (arith, below c)

pub offset_bounds-table-i : goal.offset_bounds-table-i
offset_bounds-table-i c = omega (arith, below c)

pub bounds-table-i : goal.bounds-table-i
bounds-table-i c = omega (arith, below (goal.at.bounds-table-i c).After-cast_usize-i)

pub offset_bounds-table-i-2 : goal.offset_bounds-table-i-2
offset_bounds-table-i-2 c = omega (arith, below (goal.at.offset_bounds-table-i-2 c).After-cast_usize-i)

pub bounds-table-i-2 : goal.bounds-table-i-2
bounds-table-i-2 c = omega (arith, below (goal.at.bounds-table-i-2 c).After-cast_usize-i)

pub offset_bounds-table-i-3 : goal.offset_bounds-table-i-3
offset_bounds-table-i-3 c = omega (arith, below (goal.at.offset_bounds-table-i-3 c).After-cast_usize-i)

pub bounds-table-i-3 : goal.bounds-table-i-3
bounds-table-i-3 c = omega (arith, below (goal.at.bounds-table-i-3 c).After-cast_usize-i)
