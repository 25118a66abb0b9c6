-- `reads::pair` meets its contract.
use Rattle.floats.specs.Steps.{given, step}
use Rattle.reads.specs.Reads.{push_pair}
use Rattle.reads.proofs.Appends.{kind_made}
use Rattle.reads.proofs.branches.Branches.pair.Goals as goal

pub returns : goal.returns
unfolding push_pair
returns c out =
    rw (step, given c.a_first-mask.ensures, given c.pick_word-first.ensures, given c.pick_word-second.ensures, given c.pick-first_weight.ensures, step, step, step, c.kind_of-kind.ensures) (kind_made _ _ _ out)
