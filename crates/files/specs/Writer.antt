-- What writing a patch gives. Definitions only.
use Rattle.std.specs.Prelude.{◌≡◌, cond, ◌||◌, List, [], ◌∷◌, ◌++◌, ℕ, ltb, eqb, length, drop, Result, Ok, Err}
use Rattle.limits.specs.Lines.{first_of}
use Rattle.limits.specs.Refusals.{line_of}
use Rattle.limits.specs.declared.refusal.Refusal.{Refusal}
use Rattle.files.specs.declared.patches.PatchSlot.{PatchSlot}
use Rattle.files.specs.declared.patches.Patch.{Patch}
use Rattle.files.specs.declared.answers.Written.{Written}
use Rattle.files.specs.declared.fields.Entry.{Entry}
use Rattle.files.specs.Format.{record_of, bad_fields}

-- a slot's record is of kind 1 and has serial 1
abbrev pub entry_of : ℕ → PatchSlot → Entry
entry_of number s = record { kind = 1; slot = number; mode = s.mode; hundredths = s.hundredths; tenthousandths = s.tenthousandths; serial = 1 }

-- slot 0 first
unfoldable pub file_of : Patch → List ℕ
file_of p = record_of (entry_of 0 p.slot0) ++ record_of (entry_of 1 p.slot1)

-- the bytes of a patch's file: two records
abbrev pub patch_bytes : ℕ
patch_bytes = 28

-- 11, then 8
unfoldable pub writing_of : Patch → ℕ → ℕ
writing_of p size =
    first_of ((bad_fields (entry_of 0 p.slot0) || bad_fields (entry_of 1 p.slot1), 11) ∷ (ltb size patch_bytes, 8) ∷ [])

-- refused, the buffer is as before; accepted, what lies past the file's bytes is
pub record Wrote (p : Patch) (before after : List ℕ) (r : Written) : Type 0 where
  pub number : r.number ≡ writing_of p (length before)
  pub bytes : r.bytes ≡ cond (eqb r.number 0) patch_bytes 0
  pub refused : (r.number ≡ 0 → ⊥) → after ≡ before
  pub written : r.number ≡ 0 → after ≡ file_of p ++ drop patch_bytes before

-- what the code answers
unfoldable pub written_as : Result ℕ Refusal → Written
written_as (Ok bytes) = record { number = 0; bytes = bytes }
written_as (Err refusal) = record { number = line_of refusal; bytes = 0 }
