-- `phase::pinch` meets its contract.
use Rattle.floats.specs.Steps.{given, step}
use Rattle.phase.specs.Map.{pinch_map}
use Rattle.phase.proofs.map.pinch.Goals as goal

pub returns : goal.returns
unfolding pinch_map
returns c out =
    rw (given c.pinch_strength-strength.ensures, given c.unit-x.ensures, step, given c.sin_cycles-s.ensures, given c.cos_cycles-k.ensures, given c.atan-angle.ensures, step, given c.to_word.ensures, given c.add_words.ensures) (c.one.ensures out)
