-- The laws of a picture's promise. Assumes nothing.
use mathlib.Core.Path.{◌≡◌, refl, sym, ◌∙◌, ap}
use mathlib.Core.Bool.{false, ◌||◌}
use mathlib.Core.List.{List, [], ◌∷◌}
use Prim.Native.Nat.{ℕ, ◌≤◌, ◌<◌}
use native.Mathlib.Decide.{ℕ_discrete}
use native.Mathlib.Omega.{arith}
use lib.ListN.{length}
use lib.Ieee.{Float}
use borrow.Author.Tests.{ne_eqb}
use Rattle.std.proofs.Common.{Result, Ok, Err}
use Rattle.std.specs.Result.{IsErrAnd}
use Rattle.limits.specs.declared.answers.Answer.{Answer}
use Rattle.limits.specs.declared.refusal.Refusal.{Refusal}
use Rattle.limits.specs.Refusals.{number_of, answer_of}
use Rattle.limits.specs.Lines.{bad_modes, bad_points}
use Rattle.limits.specs.Lengths.{curve_length, cycle_length, numbers_length, shorter}
use Rattle.limits.proofs.LineLaws.{first_passed, or_false, good_points, some_number}
use Rattle.limits.proofs.LengthLaws.{long_enough}
use Rattle.lanes.specs.declared.maths.Numbers.{Numbers}
use Rattle.phase.specs.declared.map.Slot.{Slot}
use Rattle.preview.specs.Refusal.{preview_short, preview_refusal}
use Rattle.preview.specs.Picture.{picture_of}
use Rattle.preview.specs.Drawn.{Drawn}
use Rattle.preview.proofs.PictureLaws.{length_picture}

-- ---- an accepted call

pub record Passed (mode0 mode1 n curve-long cycle-long count : ℕ) : Type 0 where
  pub modes : bad_modes mode0 mode1 ≡ false
  pub points : bad_points n ≡ false
  pub curve : shorter curve_length curve-long ≡ false
  pub cycle : shorter cycle_length cycle-long ≡ false
  pub numbers : shorter numbers_length count ≡ false

module _ (mode0 mode1 points curve cycle numbers : ℕ) where
  pub passed : preview_refusal mode0 mode1 points curve cycle numbers ≡ 0 → Passed mode0 mode1 points curve cycle numbers
  unfolding preview_refusal
  passed e =
      let p1 = first_passed (bad_modes mode0 mode1) 0 _ e in
      let p4 = first_passed (bad_points points) 3 _ p1.1 in
      let p7 = first_passed (preview_short curve cycle numbers) 6 _ p4.1 in
      let three = or_false (shorter curve_length curve || shorter cycle_length cycle) (shorter numbers_length numbers) p7.0 in
      let two = or_false (shorter curve_length curve) (shorter cycle_length cycle) three.0 in
      record { modes = p1.0; points = p4.0; curve = two.0; cycle = two.1; numbers = three.1 }

  -- what drawing asks for
  pub fits : preview_refusal mode0 mode1 points curve cycle numbers ≡ 0 → (1024 < curve) × (2048 ≤ cycle) × (points ≤ 4096)
  fits e =
      let p = passed e in
      let long = long_enough curve_length curve p.curve in
      (omega arith, long_enough cycle_length cycle p.cycle, good_points points p.points)

-- ---- the promise

module _ (slot0 slot1 : Slot) (percent0 percent1 : Float) (numbers : Numbers) (count : ℕ) (curve cycle : List Float) where
  abbrev Number : ℕ → ℕ
  Number points = preview_refusal slot0.mode slot1.mode points (length curve) (length cycle) count

  abbrev Did : List Float → List Float → Answer → Type 0
  Did before after r = Drawn slot0 slot1 percent0 percent1 numbers count curve cycle before after r

  -- a call that is turned down, by what `?` hands on
  pub turned_down_lem : (before : List Float) (r : Result ℕ Refusal) (e : Refusal) → IsErrAnd r (λ x. x ≡ e) → number_of {A = Unit {0}} (Err e) ≡ Number (length before) → Did before before (answer_of r)
  unfolding answer_of number_of
  turned_down_lem before (Ok n) e handed is = absurd handed
  turned_down_lem before (Err x) e handed is =
      rw handed
      (record { number = is; frames = rw (ne_eqb _ 0 (some_number e)); refused = λ h. refl; accepted = λ z. absurd (some_number e z) })

  -- and one that is accepted
  pub taken : {before after : List Float} → Number (length before) ≡ 0 → after ≡ picture_of numbers curve cycle slot0 slot1 percent0 percent1 (length before)
      → Did before after (answer_of (Ok (length before)))
  unfolding answer_of
  taken e p = record { number = sym e; frames = refl; refused = λ h. absurd (h refl); accepted = λ z. p }

  -- two pictures of one length: what stood in them does not matter
  module _ {before before' after after' : List Float} {r r' : Answer} (one : Did before after r) (two : Did before' after' r') (same : length before ≡ length before') where
    same_number : r.number ≡ r'.number
    same_number = one.number ∙ rw same (sym two.number)

    pub same_answer : r ≡ r'
    same_answer =
        let frames : r.frames ≡ r'.frames = one.frames ∙ rw (same_number, same) (sym two.frames) in
        λ i. record { number = same_number i; frames = frames i }

    pub same_picture : r.number ≡ 0 → after ≡ after'
    same_picture e = one.accepted e ∙ rw same (sym (two.accepted (sym same_number ∙ e)))

  -- the promise leaves no point open: two calls on the same picture end alike
  pub same_end : {before after after' : List Float} {r r' : Answer} → Did before after r → Did before after' r' → after ≡ after'
  same_end {after} {after'} {r} one two = go (ℕ_discrete r.number 0)
    where
      go : Dec (r.number ≡ 0) → after ≡ after'
      go (yes e) = same_picture one two refl e
      go (no ne) = one.refused ne ∙ sym (two.refused (λ z. ne (one.number ∙ sym two.number ∙ z)))

  -- a picture is as long as it was
  pub same_length : {before after : List Float} {r : Answer} → Did before after r → length after ≡ length before
  same_length {before} {after} {r} did = go (ℕ_discrete r.number 0)
    where
      go : Dec (r.number ≡ 0) → length after ≡ length before
      go (yes e) = ap length (did.accepted e) ∙ length_picture numbers curve cycle slot0 slot1 percent0 percent1 (length before)
      go (no ne) = ap length (did.refused ne)

  -- so an empty one stays
  pub empty_kept : {before after : List Float} {r : Answer} → Did before after r → length before ≡ 0 → after ≡ before
  empty_kept {before} {after} did e = none after (same_length did ∙ e) ∙ sym (none before e)
    where
      none : (xs : List Float) → length xs ≡ 0 → xs ≡ []
      none [] h = refl
      none (x ∷ xs) h = absurd (omega arith)
