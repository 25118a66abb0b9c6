-- A choice by a number, as a `match` over mode numbers is. Definitions only.
use Rattle.std.specs.Prelude.{ℕ, cond, List, [], ◌∷◌, eqb}

infix 3 ◌⇒◌
pub data Case (A : Type 0) : Type 0 where
  ◌⇒◌ : ℕ → A → Case A

-- the value of the first case that has the number, or the default
unfoldable pub case_of : {A : Type 0} → ℕ → List (Case A) → A → A
case_of x [] d = d
case_of x ((k ⇒ v) ∷ cs) d = cond (eqb x k) v (case_of x cs d)
