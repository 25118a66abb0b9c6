-- `shaping::filter_picture` meets its contract.
use Rattle.wave.specs.Filter.{filter_of}
use Rattle.floats.specs.Steps.{◌>>=◌}
use Rattle.preview.specs.Shaping.{settled_of}
use Rattle.preview.proofs.RunLaws.{filtered}
use Rattle.preview.proofs.shaping.filter_picture.Goals as goal

pub returns : goal.returns
unfolding settled_of filter_of ◌>>=◌
returns c =
    rw (c.tangent.ensures, c.cutoff_harmonic-harmonic.ensures, c.damping.ensures) at (filtered _ _ _ _ c.settle-state.ensures c.draw_pass.ensures)
