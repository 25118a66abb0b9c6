-- `wave::filter_with` meets its contract.
use native.Mathlib.Omega.{arith}
use mathlib.Core.Path.{◌≡◌}
use Rattle.modes.specs.Choice.{case_of}
use Rattle.modes.proofs.Choice.{miss}
use Rattle.floats.specs.Steps.{step}
use Rattle.wave.specs.Filter.{filter_with}
use Rattle.wave.proofs.filters.filter_with.Goals as goal

pub returns-in-17 : goal.returns-in-17
unfolding filter_with case_of
returns-in-17 c = rw (c.in-17.is, step, step, step, step, step, step, step)

pub returns-in_default : goal.returns-in_default
unfolding filter_with
returns-in_default c =
    let other : Unit {0} × (c.args.mode ≡ 17 → ⊥) = (tt, λ e. omega arith) in
    rw (step, step, step, step, step, step, step, ← miss (Unit {0}) _ _ _ other)
