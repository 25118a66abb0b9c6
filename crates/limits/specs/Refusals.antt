-- The refusals by their numbers, and what C hears of an outcome. Definitions only.
use Rattle.std.specs.Prelude.{ℕ, Bool, false, List, map, Result, Ok, Err, Float, pos}
use Rattle.std.specs.Float.{fin}
use Rattle.limits.specs.declared.refusal.Refusal.{Refusal}
use Rattle.limits.specs.declared.answers.Answer.{Answer}
use Rattle.limits.specs.declared.answers.Valued.{Valued}
use Rattle.limits.specs.declared.answers.Value.{Value}

-- the table's line, or the number of a refusal that comes after it
unfoldable pub line_of : Refusal → ℕ
line_of Refusal.Mode = 1
line_of Refusal.Factor = 2
line_of Refusal.Lanes = 3
line_of Refusal.Frames = 4
line_of Refusal.Rate = 5
line_of Refusal.Design = 6
line_of Refusal.ShortRead = 7
line_of Refusal.ShortWrite = 8
line_of Refusal.Length = 9
line_of Refusal.Kind = 10
line_of Refusal.Field = 11
line_of Refusal.NoAmount = 12

-- 0 where the call is accepted
unfoldable pub number_of : {A : Type 0} → Result A Refusal → ℕ
number_of (Ok _) = 0
number_of (Err refusal) = line_of refusal

-- lines of the table, each with its refusal, as lines with numbers
abbrev pub numbered : List (Bool × Refusal) → List (Bool × ℕ)
numbered lines = map (λ (l : Bool × Refusal). (l.0, line_of l.1)) lines

-- ---- for C: the number, and what an accepted call gives

-- +0, the float of a call that is turned down
abbrev pub no_value : Float
no_value = fin false 0 (pos 0)

unfoldable pub answer_of : Result ℕ Refusal → Answer
answer_of (Ok frames) = record { number = 0; frames = frames }
answer_of (Err refusal) = record { number = line_of refusal; frames = 0 }

unfoldable pub valued_of : Result (ℕ × Float) Refusal → Valued
valued_of (Ok (frames, value)) = record { number = 0; frames = frames; value = value }
valued_of (Err refusal) = record { number = line_of refusal; frames = 0; value = no_value }

unfoldable pub value_answer : Result Float Refusal → Value
value_answer (Ok value) = record { number = 0; value = value }
value_answer (Err refusal) = record { number = line_of refusal; value = no_value }
