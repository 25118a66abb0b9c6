-- `phase::mirror` meets its contract.
use Rattle.floats.specs.Steps.{given, step}
use Rattle.phase.specs.Map.{mirror_map}
use Rattle.phase.proofs.map.mirror.Goals as goal

pub returns : goal.returns
unfolding mirror_map
returns c out =
    rw (step, given c.unit.ensures, given c.wrap-v.ensures, step, step, given c.lean_offset.ensures, step, given c.lean_offset-2.ensures, step, given c.smooth_box-weight.ensures, given c.to_word.ensures, given c.to_word-2.ensures) (c.pair.ensures out)
