-- `modes::oversampled` meets its contract.
use Rattle.std.specs.Prelude.{◌≤◌, Ok}
use native.Mathlib.Omega.{arith}
use mathlib.Core.Path.{refl}
use mathlib.Core.Bool.{true, false}
use Rattle.modes.specs.Table.{Row, oversampled_of}
use Rattle.modes.proofs.Ranges.{range}
use Rattle.modes.proofs.Laws.{beyond}
use Rattle.modes.proofs.shaping.oversampled.Goals as goal

pub returns-in_default : goal.returns-in_default
returns-in_default c = let h : 70 ≤ c.args.mode = omega arith in unfold oversampled_of in beyond (λ (r : Row). r.oversampled) h

pub returns-in-1-to-15 : goal.returns-in-1-to-15
returns-in-1-to-15 c = range oversampled_of (Ok true) 1 16 (unfold oversampled_of in refl) (omega arith) (omega arith)

pub returns-in-1-to-15-2 : goal.returns-in-1-to-15-2
returns-in-1-to-15-2 c = range oversampled_of (Ok true) 19 70 (unfold oversampled_of in refl) (omega arith) (omega arith)

pub returns-in-0 : goal.returns-in-0
returns-in-0 c = range oversampled_of (Ok false) 0 1 (unfold oversampled_of in refl) (omega arith) (omega arith)

pub returns-in-0-2 : goal.returns-in-0-2
returns-in-0-2 c = range oversampled_of (Ok false) 16 19 (unfold oversampled_of in refl) (omega arith) (omega arith)
