-- `voice::shape_level` meets its contract: slots without a state leave both filter pairs.
use Rattle.floats.specs.Steps.{◌>>=◌}
use Rattle.lanes.specs.Word.{signed_of}
use Rattle.voice.specs.WaveRun.{shaped_of}
use Rattle.voice.proofs.wave_run.shape_level.Goals as goal

pub returns : goal.returns
unfolding shaped_of ◌>>=◌
returns c = λ sk step.
    let increment = signed_of step in
    rw (c.kept.ensures, ← c.level_of.ensures sk increment c.args.state.pairs0, ← c.level_of-2.ensures sk increment c.args.state.pairs1)
