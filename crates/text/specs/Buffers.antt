-- A line in a buffer of 255 bytes, as `Line` has it. Definitions only.
use Rattle.std.specs.Prelude.{Bool, cond, not, ◌&&◌, List, ℕ, min, ltb, take}
use Rattle.text.specs.Lines.{line_length, Reading}
use Rattle.text.specs.declared.lines.Line.{Line}

-- how many of the buffer's bytes are the line's, and whether its end has come
pub record Held : Type 0 where
  pub length : ℕ
  pub ended : Bool

-- what a buffer and a line in it stand for
abbrev pub reading : List ℕ → Held → Reading
reading buffer l = record { bytes = take l.length buffer; ended = l.ended }

-- what a `Line` is in its own buffer, and what it stands for
abbrev pub held_of : Line → Held
held_of l = record { length = l.length; ended = l.ended }

abbrev pub reading_of : Line → Reading
reading_of l = reading l.bytes (held_of l)

-- how many of the buffer's bytes have begun a line
unfoldable pub begun_length : Held → ℕ
begun_length l = cond l.ended 0 (min l.length line_length)

-- whether what has begun is not empty
abbrev pub left_over : Held → Bool
left_over l = not l.ended && ltb 0 l.length
