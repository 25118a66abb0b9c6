-- One lane's section steps for each factor, and how many they are at most. Assumes nothing.
use mathlib.Core.Path.{◌≡◌, ◌∙◌}
use Prim.Native.Nat.{ℕ, ◌+◌, ◌*◌, ◌≤◌}
use native.Mathlib.Nat.{mul-le-mul, mul_assoc, mul_comm, add-mul}
use native.Mathlib.Omega.{arith}
use Rattle.plan.specs.Sums.{sum}
use Rattle.plan.specs.Counting.{cascade_steps, count_at}
use Rattle.plan.proofs.CountLaws.{steps_are}

module _ (a b c f : ℕ) where
  -- s stages that end in f frames
  abbrev steps : ℕ → ℕ
  steps s = cascade_steps (count_at a b c) s f

  -- k times f × m
  times : (k m : ℕ) → k * (f * m) ≡ m * k * f
  times k m = rw (mul_comm f m, ← mul_assoc k m f, mul_comm k m)

  pub steps_none : steps 0 ≡ 0
  unfolding sum
  steps_none = steps_are (count_at a b c) f 0

  pub steps_one : steps 1 ≡ a * f
  unfolding sum
  steps_one = steps_are (count_at a b c) f 1 ∙ omega (arith, times a 1)

  pub steps_two : steps 2 ≡ (a + 2 * b) * f
  unfolding sum
  steps_two = steps_are (count_at a b c) f 2 ∙ omega (arith, times a 1, times b 2, add-mul a (2 * b) f)

  pub steps_three : steps 3 ≡ (a + 2 * b + 4 * c) * f
  unfolding sum
  steps_three = steps_are (count_at a b c) f 3 ∙ omega (arith, times a 1, times b 2, times c 4, add-mul a (2 * b) f, add-mul (a + 2 * b) (4 * c) f)

  pub one_most : f ≤ 4096 → a ≤ 12 → a * f ≤ 344064
  one_most hf ha = omega (arith, mul-le-mul ha hf)

  pub two_most : f ≤ 4096 → a ≤ 12 → b ≤ 12 → (a + 2 * b) * f ≤ 344064
  two_most hf ha hb = let k : a + 2 * b ≤ 36 = omega arith in omega (arith, mul-le-mul k hf)

  pub three_most : f ≤ 4096 → a ≤ 12 → b ≤ 12 → c ≤ 12 → (a + 2 * b + 4 * c) * f ≤ 344064
  three_most hf ha hb hc = let k : a + 2 * b + 4 * c ≤ 84 = omega arith in omega (arith, mul-le-mul k hf)
