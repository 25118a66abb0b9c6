use Rattle.std.proofs.Common.{◌≡◌}
use Rattle.probe.specs.Runs.{Ran}
use Rattle.probe.specs.Waves.{slot_of, start_in, state_after, shaped_at}
use Rattle.probe.proofs.waves.probe_shape_run.Given as goal

abbrev pub invariant-loop-i : goal.invariant-loop-i
invariant-loop-i l =
    let slot = slot_of l.numbers.sin l.mode l.a l.character l.sourced l.source l.increment in
    Ran (shaped_at slot l.xs (start_in l.state)) l.initial.out l.out l.i × (l.s ≡ state_after slot l.xs (start_in l.state) l.i)
