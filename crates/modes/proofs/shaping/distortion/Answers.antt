-- `modes::distortion` meets its contract.
use Rattle.std.specs.Prelude.{◌≤◌, Ok}
use native.Mathlib.Omega.{arith}
use mathlib.Core.Path.{refl}
use mathlib.Core.Bool.{true, false}
use Rattle.modes.specs.Table.{Row, distortion_of}
use Rattle.modes.proofs.Ranges.{range}
use Rattle.modes.proofs.Laws.{beyond}
use Rattle.modes.proofs.shaping.distortion.Goals as goal

pub returns-in-19-to-32 : goal.returns-in-19-to-32
returns-in-19-to-32 c = range distortion_of (Ok true) 19 33 (unfold distortion_of in refl) (omega arith) (omega arith)

pub returns-in_default : goal.returns-in_default
returns-in_default c = let h : 70 ≤ c.args.mode = omega arith in unfold distortion_of in beyond (λ (r : Row). r.distortion) h

pub returns-in-0-to-18 : goal.returns-in-0-to-18
returns-in-0-to-18 c = range distortion_of (Ok false) 0 19 (unfold distortion_of in refl) (omega arith) (omega arith)

pub returns-in-0-to-18-2 : goal.returns-in-0-to-18-2
returns-in-0-to-18-2 c = range distortion_of (Ok false) 33 70 (unfold distortion_of in refl) (omega arith) (omega arith)
