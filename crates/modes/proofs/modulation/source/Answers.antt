-- `modes::source` meets its contract.
use Rattle.std.specs.Prelude.{Ok, Some, None}
use native.Mathlib.Omega.{arith}
use Prim.Native.Nat.{ℕ, ◌+◌}
use mathlib.Core.Path.{refl}
use mathlib.Core.List.{List, [], ◌∷◌, map}
use Rattle.modes.specs.declared.facts.Source.TheVariants.{Osc1, Osc2, Noise, Sub, Filter1, Filter2, Own}
use Rattle.modes.specs.Table.{Row, source_of}
use Rattle.modes.proofs.Ranges.{range, keys, past}
use Rattle.modes.proofs.Laws.{beyond}
use Rattle.modes.proofs.modulation.source.Goals as goal

-- the six modes that read the n-th source
abbrev reads : ℕ → List ℕ
reads n = map (n +◌) (33 ∷ 39 ∷ 45 ∷ 51 ∷ 58 ∷ 64 ∷ [])

pub returns-in-33 : goal.returns-in-33
returns-in-33 c = keys source_of (Ok (Some Osc1)) (reads 0) (unfold source_of in refl) c.in-33.is

pub returns-in-34 : goal.returns-in-34
returns-in-34 c = keys source_of (Ok (Some Osc2)) (reads 1) (unfold source_of in refl) c.in-34.is

pub returns-in-35 : goal.returns-in-35
returns-in-35 c = keys source_of (Ok (Some Noise)) (reads 2) (unfold source_of in refl) c.in-35.is

pub returns-in-36 : goal.returns-in-36
returns-in-36 c = keys source_of (Ok (Some Sub)) (reads 3) (unfold source_of in refl) c.in-36.is

pub returns-in-37 : goal.returns-in-37
returns-in-37 c = keys source_of (Ok (Some Filter1)) (reads 4) (unfold source_of in refl) c.in-37.is

pub returns-in-38 : goal.returns-in-38
returns-in-38 c = keys source_of (Ok (Some Filter2)) (reads 5) (unfold source_of in refl) c.in-38.is

pub returns-in-57 : goal.returns-in-57
returns-in-57 c = keys source_of (Ok (Some Own)) (57 ∷ []) (unfold source_of in refl) c.in-57.is

pub returns-in-0-to-32 : goal.returns-in-0-to-32
returns-in-0-to-32 c = range source_of (Ok None) 0 33 (unfold source_of in refl) (omega arith) (omega arith)

pub returns-in_default : goal.returns-in_default
returns-in_default c = unfold source_of in beyond (λ (r : Row). r.source) (past ((57 ∷ []) ∷ reads 5 ∷ reads 4 ∷ reads 3 ∷ reads 2 ∷ reads 1 ∷ reads 0 ∷ []) 33 70 refl c.in_default.in_default-own.rest (omega arith))
