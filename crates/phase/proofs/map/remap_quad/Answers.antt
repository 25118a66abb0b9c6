-- `phase::remap_quad` meets its contract.
use Rattle.floats.specs.Steps.{steps}
use Rattle.phase.specs.Map.{remap_quad_map}
use Rattle.phase.proofs.map.remap_quad.Goals as goal

pub returns : goal.returns
unfolding remap_quad_map
returns c out = search (steps, c.one.ensures) depth 12
