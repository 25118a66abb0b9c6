-- `phase::sync` meets its contract.
use Rattle.floats.specs.Steps.{given}
use Rattle.phase.specs.Map.{sync_map}
use Rattle.phase.proofs.map.sync.Goals as goal

pub returns : goal.returns
unfolding sync_map
returns c out =
    rw (given c.requires, given c.signed-t.ensures, given c.to_word-after.ensures, given c.to_word-whole.ensures, given c.add_words-before.ensures, given c.clamp-soft.ensures, given c.max-wide.ensures, given c.min-half.ensures, given c.smoothstep-weight.ensures) (c.pair.ensures out)
