-- `probe::reads` gives what `reads_of` says. An answer, since an attribute can't name the operator `◌>>=◌` to unfold.
use Rattle.floats.specs.Steps.{◌>>=◌}
use Rattle.phase.specs.Setting.{setting_of}
use Rattle.probe.specs.Phases.{reads_of}
use Rattle.probe.proofs.phases.reads.Goals as goal

pub returns-clause-value : goal.returns-clause-value
unfolding reads_of setting_of ◌>>=◌
returns-clause-value c = rw (c.from.ensures, c.apply.ensures, c.new-map0.ensures, c.apply-first.ensures, c.new-map1.ensures, c.start.ensures)
