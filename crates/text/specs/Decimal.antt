-- Decimal numbers on a line. Definitions only.
use Rattle.std.specs.Prelude.{Bool, if◌then◌else◌, ◌&&◌, ◌||◌, ◌==◌, nat_lt, Option, Some, None, List, [], ◌∷◌, ◌++◌, ℕ, ◌+◌, ◌-◌, ◌*◌, ◌^◌, length, map, fold}
use Rattle.std.specs.Char.{is_ascii_digit}
use Rattle.std.specs.List.{list_all}
use Rattle.text.specs.Lines.{unless_empty}

-- space, tab, and the carriage return that some systems end a line with
abbrev pub blank : ℕ → Bool
blank b = b == 32 || b == 9 || b == 13

-- ---- a line's words, which blanks part

-- `word` are the bytes since the last blank
unfoldable pub words_from : List ℕ → List ℕ → List (List ℕ)
words_from word [] = unless_empty word
words_from word (b ∷ bs) = if blank b then unless_empty word ++ words_from [] bs else words_from (word ++ (b ∷ [])) bs

abbrev pub words_of : List ℕ → List (List ℕ)
words_of line = words_from [] line

-- ---- a word's number

-- the digits after a number v
abbrev pub value_from : ℕ → List ℕ → ℕ
value_from v word = fold (λ n b. n * 10 + (b - 48)) v word

abbrev pub value_of : List ℕ → ℕ
value_of word = value_from 0 word

abbrev pub digits : List ℕ → Bool
digits word = list_all is_ascii_digit word

-- a decimal number below 2^32
abbrev pub is_number : List ℕ → Bool
is_number word = digits word && nat_lt (value_of word) (2 ^ 32)

unfoldable pub number_of : List ℕ → Option ℕ
number_of word = if is_number word then Some (value_of word) else None

-- ---- a line's numbers

unfoldable pub seven_of_words : List (List ℕ) → Option (List ℕ)
seven_of_words words = if length words == 7 && list_all is_number words then Some (map value_of words) else None

-- a line of seven numbers and nothing else
abbrev pub seven_of : List ℕ → Option (List ℕ)
seven_of line = seven_of_words (words_of line)
