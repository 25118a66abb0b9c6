-- `modes::modulated` meets its contract.
use Rattle.std.specs.Prelude.{◌≤◌, Ok, Some, None}
use native.Mathlib.Omega.{arith}
use mathlib.Core.Path.{refl}
use Rattle.modes.specs.declared.facts.Modulated.TheVariants.{Fm, PhaseDistortion, Am, Ring}
use Rattle.modes.specs.declared.facts.FmType.TheVariants.{ThruZero, Exponential, Linear}
use Rattle.modes.specs.Table.{Row, modulated_of}
use Rattle.modes.proofs.Ranges.{range}
use Rattle.modes.proofs.Laws.{beyond}
use Rattle.modes.proofs.modulation.modulated.Goals as goal

pub returns-in-0-to-32 : goal.returns-in-0-to-32
returns-in-0-to-32 c = range modulated_of (Ok None) 0 33 (unfold modulated_of in refl) (omega arith) (omega arith)

pub returns-in-33-to-38 : goal.returns-in-33-to-38
returns-in-33-to-38 c = range modulated_of (Ok (Some (Fm ThruZero))) 33 39 (unfold modulated_of in refl) (omega arith) (omega arith)

pub returns-in-39-to-44 : goal.returns-in-39-to-44
returns-in-39-to-44 c = range modulated_of (Ok (Some (Fm Exponential))) 39 45 (unfold modulated_of in refl) (omega arith) (omega arith)

pub returns-in-45-to-50 : goal.returns-in-45-to-50
returns-in-45-to-50 c = range modulated_of (Ok (Some (Fm Linear))) 45 51 (unfold modulated_of in refl) (omega arith) (omega arith)

pub returns-in-51-to-57 : goal.returns-in-51-to-57
returns-in-51-to-57 c = range modulated_of (Ok (Some PhaseDistortion)) 51 58 (unfold modulated_of in refl) (omega arith) (omega arith)

pub returns-in-58-to-63 : goal.returns-in-58-to-63
returns-in-58-to-63 c = range modulated_of (Ok (Some Am)) 58 64 (unfold modulated_of in refl) (omega arith) (omega arith)

pub returns-in-64-to-69 : goal.returns-in-64-to-69
returns-in-64-to-69 c = range modulated_of (Ok (Some Ring)) 64 70 (unfold modulated_of in refl) (omega arith) (omega arith)

pub returns-in_default : goal.returns-in_default
returns-in_default c = let h : 70 ≤ c.args.mode = omega arith in unfold modulated_of in beyond (λ (r : Row). r.modulated) h
