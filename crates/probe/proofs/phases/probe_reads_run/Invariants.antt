use Rattle.probe.specs.Runs.{Ran}
use Rattle.probe.specs.Phases.{sample_of}
use Rattle.probe.proofs.phases.probe_reads_run.Given as goal

abbrev pub invariant-loop-i : goal.invariant-loop-i
invariant-loop-i l =
    Ran (sample_of l.tables.numbers.sin l.tables.numbers.atan l.tables.curve.values.now l.cycle.samples.now l.slots l.half l.inner l.words) l.initial.out l.out l.i
