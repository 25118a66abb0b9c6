-- `phase::remap_mirrored` meets its contract.
use Rattle.floats.specs.Steps.{steps}
use Rattle.phase.specs.Map.{remap_mirrored_map}
use Rattle.phase.proofs.map.remap_mirrored.Goals as goal

pub returns : goal.returns
unfolding remap_mirrored_map
returns c out =
    search (steps, c.unit-u.ensures, c.above-second.ensures, c.pick-x.ensures, c.remap-y.ensures, c.pick.ensures, c.to_word-word.ensures, c.one.ensures) depth 14
