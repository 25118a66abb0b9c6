-- What an answer means, in terms of the amounts that serve alone: a call is in one of four situations, and the answer is that situation's.
-- proofs/AnsweredLaws has that `found_of` is such an answer, and the only one. Definitions only.
use Rattle.std.specs.Prelude.{◌≡◌, Bool, true, false, ℕ, ◌≤◌, ◌<◌}
use Rattle.modes.specs.Table.{is_distortion}
use Rattle.levels.specs.declared.Found.{Found}
use Rattle.levels.specs.Found.{accepted, turned_down}

-- h hundredths serve, and no smaller amount does
pub record LeastAmount (serves : ℕ → Bool) (h : ℕ) : Type 0 where
  pub most : h ≤ 10000
  pub there : serves h ≡ true
  pub before : (i : ℕ) → i < h → serves i ≡ false

-- none of 0 to 10,000 hundredths serves
pub record NoAmount (serves : ℕ → Bool) : Type 0 where
  pub nowhere : (i : ℕ) → i ≤ 10000 → serves i ≡ false

-- past lines 1 and 7, so that a search is made
pub record Searched (mode count : ℕ) : Type 0 where
  pub distortion : is_distortion mode ≡ true
  pub numbers : 13 ≤ count

pub data Situation (mode count : ℕ) (serves : ℕ → Bool) : Type 0 where
  other : is_distortion mode ≡ false → Situation mode count serves
  short : is_distortion mode ≡ true → count < 13 → Situation mode count serves
  nowhere : Searched mode count → NoAmount serves → Situation mode count serves
  least : Searched mode count → (h : ℕ) → LeastAmount serves h → Situation mode count serves

abbrev pub answer_of : {mode count : ℕ} {serves : ℕ → Bool} → Situation mode count serves → Found
answer_of (other d) = turned_down 1
answer_of (short d few) = turned_down 7
answer_of (nowhere searched none) = turned_down 12
answer_of (least searched h is) = accepted h

pub record Answered (mode count : ℕ) (serves : ℕ → Bool) (found : Found) : Type 0 where
  pub one : Situation mode count serves
  pub each : (c : Situation mode count serves) → found ≡ answer_of c
