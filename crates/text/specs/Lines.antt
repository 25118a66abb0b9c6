-- The lines of a text: how it is cut, and the step that a reader takes with each byte. Definitions only.
use Rattle.std.specs.Prelude.{Bool, true, false, cond, if◌then◌else◌, Option, Some, None, List, [], ◌∷◌, ◌++◌, ℕ, eqb, take}

-- the byte that ends a line
abbrev pub newline : ℕ
newline = 10

-- a line counts by so many of its bytes
abbrev pub line_length : ℕ
line_length = 255

abbrev pub kept : List ℕ → List ℕ
kept line = take line_length line

-- what is left at the end, unless it is empty
unfoldable pub unless_empty : List ℕ → List (List ℕ)
unless_empty [] = []
unless_empty (b ∷ bs) = (b ∷ bs) ∷ []

-- ---- a text's lines

-- `line` are the bytes since the last end
unfoldable pub lines_from : List ℕ → List ℕ → List (List ℕ)
lines_from line [] = unless_empty (kept line)
lines_from line (b ∷ bs) = cond (eqb b newline) (kept line ∷ lines_from [] bs) (lines_from (line ++ (b ∷ [])) bs)

-- every line with its end, and a last one without it unless it is empty
abbrev pub lines_of : List ℕ → List (List ℕ)
lines_of bytes = lines_from [] bytes

-- ---- byte by byte

-- a line as it is read: the bytes that are kept of it, and whether its end has come
pub record Reading : Type 0 where
  pub bytes : List ℕ
  pub ended : Bool

-- nothing read yet
abbrev pub unread : Reading
unread = record { bytes = []; ended = false }

-- what a further byte comes after: nothing, where a line has just ended
unfoldable pub begun : Reading → List ℕ
begun r = cond r.ended [] r.bytes

unfoldable pub with_byte : Reading → ℕ → Reading
with_byte r b =
    cond (eqb b newline)
    (record { bytes = begun r; ended = true })
    (record { bytes = kept (begun r ++ (b ∷ [])); ended = false })

-- the lines that a program sees that takes this step with each byte, and at the end what has begun
unfoldable pub lines_by : Reading → List ℕ → List (List ℕ)
lines_by r [] = unless_empty (begun r)
lines_by r (b ∷ bs) =
    let next = with_byte r b in
    cond next.ended (next.bytes ∷ lines_by next bs) (lines_by next bs)

-- the line, where its end has come
unfoldable pub ended_line : Reading → Option (List ℕ)
ended_line r = if r.ended then Some r.bytes else None
