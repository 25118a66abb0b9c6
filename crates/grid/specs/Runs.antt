-- Runs over cells in place, from the first on. Definitions only.
use Rattle.std.specs.Prelude.{◌≡◌, List, ℕ, ◌<◌, ◌≤◌, length, get_or}

-- the first r cells are written, and nothing else; d stands past the cells' end
pub record Ran {A : Type 0} (d : A) (answer : ℕ → A) (before after : List A) (r : ℕ) : Type 0 where
  pub long : length after ≡ length before
  pub made : (k : ℕ) → k < r → get_or after k d ≡ answer k
  pub kept : (k : ℕ) → r ≤ k → get_or after k d ≡ get_or before k d
