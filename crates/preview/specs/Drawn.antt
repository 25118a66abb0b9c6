-- What the call promises. Definitions only.
use Rattle.std.specs.Prelude.{◌≡◌, cond, List, ℕ, eqb, length, Float}
use Rattle.limits.specs.declared.answers.Answer.{Answer}
use Rattle.lanes.specs.declared.maths.Numbers.{Numbers}
use Rattle.phase.specs.declared.map.Slot.{Slot}
use Rattle.preview.specs.Refusal.{preview_refusal}
use Rattle.preview.specs.Picture.{picture_of}

-- a slot from its numbers
abbrev pub slot_of : ℕ → Float → Slot
slot_of mode character = record { mode = mode; character = character }

-- what an accepted call answers
abbrev pub drawn_answer : ℕ → Answer
drawn_answer points = record { number = 0; frames = points }

-- `count` is how many sine and arctangent numbers are lent. The picture before counts by its length alone
pub record Drawn (slot0 slot1 : Slot) (percent0 percent1 : Float) (numbers : Numbers) (count : ℕ) (curve cycle before after : List Float) (r : Answer) : Type 0 where
  pub number : r.number ≡ preview_refusal slot0.mode slot1.mode (length before) (length curve) (length cycle) count
  pub frames : r.frames ≡ cond (eqb r.number 0) (length before) 0
  pub refused : (r.number ≡ 0 → ⊥) → after ≡ before
  pub accepted : r.number ≡ 0 → after ≡ picture_of numbers curve cycle slot0 slot1 percent0 percent1 (length before)
