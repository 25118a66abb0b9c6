-- A line's seven numbers by one pass over its bytes. Definitions only.
use Rattle.std.specs.Prelude.{Bool, true, false, cond, not, ◌&&◌, Option, Some, None, List, [], ◌∷◌, ℕ, ◌+◌, ◌-◌, ◌*◌, ltb, eqb, get_or, set}
use Rattle.text.specs.Decimal.{blank}

-- 0 to 9
abbrev pub digit : ℕ → Bool
digit b = not (ltb b 48) && not (ltb 57 b)

-- a line of seven numbers; or none, and then zeros
pub record Seven : Type 0 where
  pub good : Bool
  pub values : List ℕ

abbrev pub seven_good : List ℕ → Seven
seven_good values = record { good = true; values = values }

abbrev pub no_seven : Seven
no_seven = record { good = false; values = 0 ∷ 0 ∷ 0 ∷ 0 ∷ 0 ∷ 0 ∷ 0 ∷ [] }

-- what the code answers
unfoldable pub seven_as : Option (List ℕ) → Seven
seven_as (Some values) = seven_good values
seven_as None = no_seven

-- what a line's bytes so far are: whether all is well; the words that are done, and 1 where one more has begun, else 0; the numbers of all
-- these, and zeros
pub record Scan : Type 0 where
  pub good : Bool
  pub done : ℕ
  pub begun : ℕ
  pub values : List ℕ

abbrev pub start : Scan
start = record { good = true; done = 0; begun = 0; values = 0 ∷ 0 ∷ 0 ∷ 0 ∷ 0 ∷ 0 ∷ 0 ∷ [] }

abbrev pub failed : Scan → Scan
failed s = record { good = false; done = s.done; begun = s.begun; values = s.values }

-- a word that has begun is done
abbrev pub ended : Scan → Scan
ended s = record { good = s.good; done = s.done + s.begun; begun = 0; values = s.values }

-- the word that has begun, or that begins, is the number v
unfoldable pub with_number : Scan → ℕ → Scan
with_number s v =
    cond (ltb v 0x1_0000_0000)
    (record { good = s.good; done = s.done; begun = 1; values = set s.values s.done v })
    (failed s)

unfoldable pub scan_byte : Scan → ℕ → Scan
scan_byte s b =
    cond (blank b)
    (ended s)
    (cond (digit b && ltb s.done 7)
    (with_number s (get_or s.values s.done 0 * 10 + (b - 48)))
    (failed s))

unfoldable pub scan_bytes : Scan → List ℕ → Scan
scan_bytes s [] = s
scan_bytes s (b ∷ bs) = scan_bytes (scan_byte s b) bs

-- what a scan found whose words are all done
unfoldable pub found : Scan → Seven
found s = cond (s.good && eqb s.done 7) (seven_good s.values) no_seven

-- the line's end ends a word as a blank does
abbrev pub at_end : Scan → Seven
at_end s = found (ended s)
