-- What the call answers. Definitions only.
use Rattle.std.specs.Prelude.{ℕ, Bool, not, List, [], ◌∷◌, eqb, Float, Result, Ok, Err}
use Rattle.floats.specs.Steps.{when◌then◌else◌}
use Rattle.limits.specs.declared.refusal.Refusal.{Refusal}
use Rattle.limits.specs.Refusals.{line_of}
use Rattle.limits.specs.Lines.{first_of}
use Rattle.limits.specs.Lengths.{numbers_length, shorter}
use Rattle.limits.specs.Search.{some_below, least_below}
use Rattle.modes.specs.Table.{is_distortion}
use Rattle.levels.specs.declared.Found.{Found}
use Rattle.levels.specs.Levels.{amounts, within_at}

abbrev pub accepted : ℕ → Found
accepted h = record { number = 0; hundredths = h }

-- no hundredths
abbrev pub turned_down : ℕ → Found
turned_down number = record { number = number; hundredths = 0 }

-- what C hears of an outcome
unfoldable pub found_answer : Result ℕ Refusal → Found
found_answer (Ok hundredths) = accepted hundredths
found_answer (Err refusal) = turned_down (line_of refusal)

-- 1: a mode that is no distortion; 7: fewer than 13 sine and arctangent numbers, of which `count` are lent
unfoldable pub level_refusal : ℕ → ℕ → ℕ
level_refusal mode count = first_of ((not (is_distortion mode), 1) ∷ (shorter numbers_length count, 7) ∷ [])

-- the least amount that serves; 12: none does
unfoldable pub searched_of : (ℕ → Bool) → Found
searched_of serves = when some_below amounts serves then accepted (least_below amounts serves) else turned_down 12

unfoldable pub found_of : List Float → ℕ → ℕ → Float → Float → Float → Found
found_of sk count mode sample wanted tolerance =
    when eqb (level_refusal mode count) 0
    then searched_of (within_at sk mode sample wanted tolerance)
    else turned_down (level_refusal mode count)
