-- What the table says of a mode by its number. Assumes nothing.
use Prim.Native.Nat.{ℕ, zero, suc, ◌≤◌, ◌<◌}
use native.Mathlib.Nat.{le_of_suc-le-suc, not-suc-le-zero}
use mathlib.Core.Path.{◌≡◌, refl, sym, ap}
use mathlib.Core.List.{List, [], ◌∷◌, map}
use lib.ListN.{length, get_or, get_or-eq_default}
use Rattle.std.specs.Prelude.{Ok, Err}
use Rattle.limits.specs.Refusals.{number_of, line_of}
use Rattle.limits.specs.declared.refusal.Refusal.{Refusal}
use Rattle.modes.specs.Table.{Row, modes, numbers, fact_of}
use Rattle.modes.proofs.Ranges.{from}

-- each row stands at the number of its mode
pub numbered : numbers ≡ from 0 70
unfolding numbers
numbered = refl

module _ {A : Type 0} (f : Row → A) where
  at : (rows : List Row) (m : ℕ) (d : Row) → m < length rows → get_or (map (λ (r : Row). Ok (f r)) rows) m (Err Refusal.Mode) ≡ Ok (f (get_or rows m d))
  at [] m d h = absurd (not-suc-le-zero h)
  at (r ∷ rows) zero d h = refl
  at (r ∷ rows) (suc m) d h = at rows m d (le_of_suc-le-suc h)

  -- up to 69 every fact is the row's
  pub within : {m : ℕ} (d : Row) → m < 70 → fact_of f m ≡ Ok (f (get_or modes m d))
  unfolding modes
  within {m} d h = at modes m d h

  -- above 69 every fact is the refusal
  pub beyond : {m : ℕ} → 70 ≤ m → Err Refusal.Mode ≡ fact_of f m
  unfolding modes
  beyond {m} h = sym (get_or-eq_default (map (λ (r : Row). Ok (f r)) modes) (Err Refusal.Mode) {n = m} h)

  -- whose number is 1
  pub beyond-number : {m : ℕ} → 70 ≤ m → number_of (fact_of f m) ≡ 1
  unfolding number_of line_of
  beyond-number h = ap number_of (sym (beyond h))
