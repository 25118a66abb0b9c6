-- What reading a patch file gives. Definitions only.
use Rattle.std.specs.Prelude.{cond, List, [], ◌∷◌, ℕ, zero, suc, ◌+◌, ltb, eqb, length, Result, Ok, Err}
use Rattle.limits.specs.Refusals.{line_of}
use Rattle.files.specs.declared.patches.PatchSlot.{PatchSlot}
use Rattle.files.specs.declared.patches.Patch.{Patch}
use Rattle.files.specs.declared.reader.Held.{Held}
use Rattle.files.specs.declared.reader.Slots.{Slots}
use Rattle.files.specs.declared.reader.PatchError.{PatchError}
use Rattle.files.specs.declared.fields.Entry.{Entry}
use Rattle.files.specs.Format.{limit, record_bytes, fields_at, number_at}

-- `Off` with zeros
abbrev pub off_slot : PatchSlot
off_slot = record { mode = 0; hundredths = 0; tenthousandths = 0 }

abbrev pub no_patch : Patch
no_patch = record { slot0 = off_slot; slot1 = off_slot }

-- no record yet: every record supersedes it, since none has a serial below 0
abbrev pub empty_held : Held
empty_held = record { slot = off_slot; serial = 0 }

abbrev pub empty_slots : Slots
empty_slots = record { held0 = empty_held; held1 = empty_held }

-- a record held
abbrev pub held_as : Entry → Held
held_as e = record { slot = record { mode = e.mode; hundredths = e.hundredths; tenthousandths = e.tenthousandths }; serial = e.serial }

-- the highest serial supersedes; among equal serials the later record does
unfoldable pub later_of : Held → Entry → Held
later_of h e = cond (ltb e.serial h.serial) h (held_as e)

unfoldable pub superseded : Slots → Entry → Slots
superseded s e =
    cond (eqb e.slot 0)
    (record { held0 = later_of s.held0 e; held1 = s.held1 })
    (record { held0 = s.held0; held1 = later_of s.held1 e })

abbrev pub patch_of : Slots → Patch
patch_of s = record { slot0 = s.held0.slot; slot1 = s.held1.slot }

-- the number by which a file is turned away and where the record that caused it starts, with no patch, or 0 and its patch
pub record Reading : Type 0 where
  pub number : ℕ
  pub at : ℕ
  pub patch : Patch

-- an accepted file, and one that is turned away for the record at `at`, with no patch
abbrev pub accepted_as : Slots → Reading
accepted_as s = record { number = 0; at = 0; patch = patch_of s }

abbrev pub refused_at : ℕ → ℕ → Reading
refused_at number at = record { number = number; at = at; patch = no_patch }

-- from `at` on, after records that left s; a file has no more records than bytes
unfoldable pub read_from : List ℕ → ℕ → ℕ → Slots → Reading
read_from bytes zero at s = accepted_as s
read_from bytes (suc most) at s =
    cond (ltb at (length bytes))
    (cond (eqb (number_at bytes at) 0)
    (read_from bytes most (at + record_bytes) (superseded s (fields_at bytes at)))
    (refused_at (number_at bytes at) at))
    (accepted_as s)

unfoldable pub reading_of : List ℕ → Reading
reading_of bytes = cond (ltb limit (length bytes)) (refused_at 9 0) (read_from bytes (length bytes) 0 empty_slots)

-- what a list of records leaves, in file order
unfoldable pub held_of : Slots → List Entry → Slots
held_of s [] = s
held_of s (e ∷ es) = held_of (superseded s e) es

-- what the code answers
unfoldable pub reading_as : Result Patch PatchError → Reading
reading_as (Ok patch) = record { number = 0; at = 0; patch = patch }
reading_as (Err error) = refused_at (line_of error.refusal) error.at
