-- The ways of the code. Assumes nothing.
use mathlib.Core.Path.{◌≡◌, refl, ◌∙◌}
use mathlib.Core.Bool.{Bool, true, false, not}
use mathlib.Core.List.{List}
use Prim.Native.Nat.{ℕ, ◌≤◌, ◌<◌}
use lib.Dec.{ltb}
use lib.Ieee.{Float}
use borrow.Author.Tests.{lt-ltb, le-ltb, ne_eqb, not-false}
use Rattle.std.proofs.Common.{Result, Ok, Err}
use Rattle.std.specs.Result.{IsErrAnd}
use Rattle.floats.specs.Steps.{by_taken, by_left}
use Rattle.limits.specs.declared.refusal.Refusal.{Refusal}
use Rattle.limits.specs.Refusals.{number_of}
use Rattle.limits.specs.Lines.{first_of}
use Rattle.limits.specs.Search.{least_below}
use Rattle.limits.proofs.LineLaws.{first_passed, some_number}
use Rattle.limits.proofs.SearchLaws.{least_some}
use Rattle.modes.specs.Table.{is_distortion}
use Rattle.levels.specs.Levels.{amounts, within_at}
use Rattle.levels.specs.Found.{accepted, turned_down, found_answer, level_refusal, searched_of, found_of}

-- ---- lines 1 and 7

module _ (mode count : ℕ) where
  pub other_mode : is_distortion mode ≡ false → level_refusal mode count ≡ 1
  unfolding level_refusal first_of
  other_mode f = rw f

  pub few_numbers : is_distortion mode ≡ true → ltb count 13 ≡ true → level_refusal mode count ≡ 7
  unfolding level_refusal first_of
  few_numbers t s = rw (t, s)

  pub no_line : is_distortion mode ≡ true → ltb count 13 ≡ false → level_refusal mode count ≡ 0
  unfolding level_refusal first_of
  no_line t s = rw (t, s)

-- what a call has that gets past them
pub lines_passed : (mode count : ℕ) → level_refusal mode count ≡ 0 → (is_distortion mode ≡ true) × (ltb count 13 ≡ false)
unfolding level_refusal
lines_passed mode count z =
    let p1 = first_passed (not (is_distortion mode)) 0 _ z in
    let p2 = first_passed (ltb count 13) 6 _ p1.1 in
    (not-false _ p1.0, p2.0)

-- ---- the search, and 12

module _ (serves : ℕ → Bool) {n : ℕ} (l : n ≡ least_below amounts serves) where
  pub serving : n < amounts → accepted n ≡ searched_of serves
  unfolding searched_of
  serving h = by_taken _ _ _ _ (least_some serves amounts ∙ rw (← l) (lt-ltb n amounts h)) (rw l)

  pub none_serving : amounts ≤ n → turned_down 12 ≡ searched_of serves
  unfolding searched_of
  none_serving h = by_left _ _ _ _ (least_some serves amounts ∙ rw (← l) (le-ltb n amounts h)) refl

-- ---- the call

module _ (sk : List Float) (count mode : ℕ) (sample wanted tolerance : Float) {number : ℕ} (e : number ≡ level_refusal mode count) where
  pub turned_down_lem : (number ≡ 0 → ⊥) → turned_down number ≡ found_of sk count mode sample wanted tolerance
  unfolding found_of
  turned_down_lem other = by_left _ _ _ _ (rw (← e) (ne_eqb _ 0 other)) (rw e)

  pub passed : number ≡ 0 → searched_of (within_at sk mode sample wanted tolerance) ≡ found_of sk count mode sample wanted tolerance
  unfolding found_of
  passed z = by_taken _ _ _ _ (rw (← e, z)) refl

-- by the table's first line that holds, as `?` hands it on
pub refused_lem : (sk : List Float) (count mode : ℕ) (sample wanted tolerance : Float) (r : Result ℕ Refusal) (e : Refusal) → IsErrAnd r (λ x. x ≡ e) → number_of {A = Unit {0}} (Err e) ≡ level_refusal mode count
    → found_answer r ≡ found_of sk count mode sample wanted tolerance
unfolding found_answer number_of
refused_lem sk count mode sample wanted tolerance (Ok h) e handed is = absurd handed
refused_lem sk count mode sample wanted tolerance (Err x) e handed is = rw handed (turned_down_lem sk count mode sample wanted tolerance is (some_number e))
