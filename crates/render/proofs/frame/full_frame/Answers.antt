-- `full_frame` meets its contract: its steps are the definition's.
use Rattle.floats.specs.Steps.{given}
use Rattle.render.specs.Frames.{frame_of}
use Rattle.render.proofs.frame.full_frame.Goals as goal

pub returns : goal.returns
unfolding frame_of
returns c =
    let shaped = rw c.wave_state.ensures at c.shape_of-shaped.ensures in
    rw (← c.requires.own0, ← c.requires.own1, given c.sum_of-raw.ensures, given shaped)
