-- `phase::unit` meets its contract.
use mathlib.Core.Path.{◌≡◌, sym, ap, ◌∙◌}
use mathlib.Core.Bool.{Bool, true, cond}
use Prim.Native.Nat.{ℕ}
use lib.Ieee.{Float, lt, neg}
use Rattle.floats.specs.F32.{◌⊕◌, ◌⊖◌, 0f, 1f}
use Rattle.floats.specs.Floor.{floor_of}
use Rattle.floats.specs.Steps.{◌>>=◌, steps}
use Rattle.floats.proofs.Fractions.{fraction}
use Rattle.lanes.specs.Word.{signed_of}
use Rattle.phase.specs.Edge.{unit_of}
use Rattle.phase.proofs.edge.unit.Goals as goal
use Rattle.phase.proofs.edge.unit.Goals.{After-signed-t}

inside : (word : ℕ) (t : Float) (below : Bool) → t ≡ signed_of word → lt t 1f ≡ true → lt (neg 1f) t ≡ true → lt t 0f ≡ below → t ⊕ cond below 1f 0f ≡ unit_of word
unfolding unit_of ◌>>=◌
inside word t below e p q b = ap (λ (b : Bool). t ⊕ cond b 1f 0f) (sym b) ∙ fraction t p q ∙ ap (λ (x : Float). x ⊖ floor_of x) e

pub returns-then-t-3 : goal.returns-then-t-3
returns-then-t-3 c = let s = (goal.at.returns-then-t-3 c).After-signed-t in inside _ s.signed-t.result _ s.signed-t.ensures c.if-t.true c.if-t-2.true c.if-t-3.true

pub returns-else-t-3 : goal.returns-else-t-3
returns-else-t-3 c = let s = (goal.at.returns-else-t-3 c).After-signed-t in inside _ s.signed-t.result _ s.signed-t.ensures c.if-t.true c.if-t-2.true c.if-t-3.false

pub returns : goal.returns
unfolding unit_of
returns c = search steps depth 12
