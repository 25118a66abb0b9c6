-- A run that writes one answer after another. Definitions only.
use Rattle.std.specs.Prelude.{◌≡◌, List, ℕ, ◌<◌, ◌≤◌, length, get_or, Float}
use Rattle.std.specs.Float.{nan}

-- the first r answers are written, and nothing else
pub record Ran (answer : ℕ → Float) (before after : List Float) (r : ℕ) : Type 0 where
  pub long : length after ≡ length before
  pub made : (k : ℕ) → k < r → get_or after k nan ≡ answer k
  pub kept : (k : ℕ) → r ≤ k → get_or after k nan ≡ get_or before k nan
