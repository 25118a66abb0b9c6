use Rattle.probe.specs.Leaves.{powers_leaf_at}
use Rattle.probe.specs.Runs.{Ran}
use Rattle.probe.proofs.leaf.probe_powers_run.Given as goal

abbrev pub invariant-loop-i : goal.invariant-loop-i
invariant-loop-i l = Ran (powers_leaf_at l.leaf l.xs) l.initial.out l.out l.i
