-- `modes::fm_type` meets its contract.
use Rattle.std.specs.Prelude.{◌≤◌, Ok, Some, None}
use native.Mathlib.Omega.{arith}
use mathlib.Core.Path.{refl}
use Rattle.modes.specs.declared.facts.FmType.TheVariants.{ThruZero, Exponential, Linear}
use Rattle.modes.specs.Table.{Row, fm_type_of}
use Rattle.modes.proofs.Ranges.{range}
use Rattle.modes.proofs.Laws.{beyond}
use Rattle.modes.proofs.modulation.fm_type.Goals as goal

pub returns-in-33-to-38 : goal.returns-in-33-to-38
returns-in-33-to-38 c = range fm_type_of (Ok (Some ThruZero)) 33 39 (unfold fm_type_of in refl) (omega arith) (omega arith)

pub returns-in-39-to-44 : goal.returns-in-39-to-44
returns-in-39-to-44 c = range fm_type_of (Ok (Some Exponential)) 39 45 (unfold fm_type_of in refl) (omega arith) (omega arith)

pub returns-in-45-to-50 : goal.returns-in-45-to-50
returns-in-45-to-50 c = range fm_type_of (Ok (Some Linear)) 45 51 (unfold fm_type_of in refl) (omega arith) (omega arith)

pub returns-in_default : goal.returns-in_default
returns-in_default c = let h : 70 ≤ c.args.mode = omega arith in unfold fm_type_of in beyond (λ (r : Row). r.fm_type) h

pub returns-in-0-to-32 : goal.returns-in-0-to-32
returns-in-0-to-32 c = range fm_type_of (Ok None) 0 33 (unfold fm_type_of in refl) (omega arith) (omega arith)

pub returns-in-0-to-32-2 : goal.returns-in-0-to-32-2
returns-in-0-to-32-2 c = range fm_type_of (Ok None) 51 70 (unfold fm_type_of in refl) (omega arith) (omega arith)
