-- A choice by a number, at a number that no case has: what the `_` of a `match` knows. Assumes nothing.
use Prim.Native.Nat.{ℕ}
use mathlib.Core.Path.{◌≡◌, refl}
use mathlib.Core.List.{List, [], ◌∷◌}
use borrow.Author.Tests.{ne_eqb}
use Rattle.modes.specs.Choice.{Case, ◌⇒◌, case_of}

module _ {A : Type 0} where
  -- x is none of the cases' numbers, the last case outermost, after N
  abbrev pub Missed : Type 0 → List (Case A) → ℕ → Type 0
  Missed N [] x = N
  Missed N ((k ⇒ v) ∷ cs) x = Missed (N × (x ≡ k → ⊥)) cs x

  inner : (N : Type 0) (cs : List (Case A)) (x : ℕ) → Missed N cs x → N
  inner N [] x m = m
  inner N ((k ⇒ v) ∷ cs) x m = (inner (N × (x ≡ k → ⊥)) cs x m).0

  pub miss : (N : Type 0) (cs : List (Case A)) (x : ℕ) (d : A) → Missed N cs x → d ≡ case_of x cs d
  unfolding case_of
  miss N [] x d m = refl
  miss N ((k ⇒ v) ∷ cs) x d m = rw (ne_eqb x k (inner (N × (x ≡ k → ⊥)) cs x m).1) (miss (N × (x ≡ k → ⊥)) cs x d m)
