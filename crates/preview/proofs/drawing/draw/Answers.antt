-- `drawing::draw` meets its contract.
use Rattle.floats.specs.Steps.{◌>>=◌}
use Rattle.preview.specs.Picture.{picture_of}
use Rattle.preview.proofs.drawing.draw.Goals as goal

pub returns-clause-drawn : goal.returns-clause-drawn
unfolding picture_of ◌>>=◌
returns-clause-drawn c =
    rw (c.shape_slot-2.ensures, c.shape_slot.ensures, c.read.ensures, c.map_of-map0.ensures, c.map_of-map1.ensures, c.inner_of-inner.ensures, c.amount_of-a1.ensures, c.amount_of-a0.ensures, c.increment_of-increment.ensures)
