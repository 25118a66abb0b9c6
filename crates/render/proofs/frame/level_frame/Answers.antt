-- `level_frame` meets its contract.
use Rattle.floats.specs.Steps.{given}
use Rattle.render.proofs.frame.level_frame.Goals as goal

pub returns : goal.returns
returns c = record {
  stepped = λ sk step.
      let shaped = rw c.wave_state.ensures at c.shape_level-shaped.ensures sk step in
      rw (← c.read.ensures, given shaped);
}
