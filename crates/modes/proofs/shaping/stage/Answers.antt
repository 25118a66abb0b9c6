-- `modes::stage` meets its contract.
use Rattle.std.specs.Prelude.{◌≤◌, Ok}
use native.Mathlib.Omega.{arith}
use mathlib.Core.Path.{refl}
use mathlib.Core.List.{[], ◌∷◌}
use Rattle.modes.specs.declared.facts.Stage.TheVariants.{Off, Phase, Wave}
use Rattle.modes.specs.Table.{Row, stage_of}
use Rattle.modes.proofs.Ranges.{range, keys}
use Rattle.modes.proofs.Laws.{beyond}
use Rattle.modes.proofs.shaping.stage.Goals as goal

pub returns-in-0 : goal.returns-in-0
returns-in-0 c = keys stage_of (Ok Off) (0 ∷ []) (unfold stage_of in refl) c.in-0.is

pub returns-in_default : goal.returns-in_default
returns-in_default c = let h : 70 ≤ c.args.mode = omega arith in unfold stage_of in beyond (λ (r : Row). r.stage) h

pub returns-in-17-to-32 : goal.returns-in-17-to-32
returns-in-17-to-32 c = range stage_of (Ok Wave) 17 33 (unfold stage_of in refl) (omega arith) (omega arith)

pub returns-in-17-to-32-2 : goal.returns-in-17-to-32-2
returns-in-17-to-32-2 c = range stage_of (Ok Wave) 58 70 (unfold stage_of in refl) (omega arith) (omega arith)

pub returns-in-1-to-16 : goal.returns-in-1-to-16
returns-in-1-to-16 c = range stage_of (Ok Phase) 1 17 (unfold stage_of in refl) (omega arith) (omega arith)

pub returns-in-1-to-16-2 : goal.returns-in-1-to-16-2
returns-in-1-to-16-2 c = range stage_of (Ok Phase) 33 58 (unfold stage_of in refl) (omega arith) (omega arith)
