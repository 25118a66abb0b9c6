-- The patch file's format: its numbers, a record, and a record's lines 9, 10 and 11. Definitions only.
use Rattle.std.specs.Prelude.{◌≡◌, Bool, true, false, not, ◌||◌, ◌&&◌, List, [], ◌∷◌, ◌++◌, ℕ, ◌+◌, ◌-◌, ◌*◌, ◌/◌, ◌%◌, ◌<◌, ltb, eqb, length, get_or, Result, MatchResult, IfOk}
use Rattle.limits.specs.Lines.{first_of, bad_mode}
use Rattle.limits.specs.Refusals.{number_of}
use Rattle.limits.specs.declared.refusal.Refusal.{Refusal}
use Rattle.files.specs.declared.patches.PatchSlot.{PatchSlot}
use Rattle.files.specs.declared.fields.Entry.{Entry}
use Rattle.files.specs.declared.records.Kind.{Kind}
use Rattle.files.specs.declared.records.Slot.{Slot}
use Rattle.files.specs.declared.records.Record.{Record}

-- the most bytes of a file
abbrev pub limit : ℕ
limit = 65536

-- ---- numbers, the low byte first

unfoldable pub two_at : List ℕ → ℕ → ℕ
two_at bytes at = get_or bytes at 0 + 256 * get_or bytes (at + 1) 0

unfoldable pub four_at : List ℕ → ℕ → ℕ
four_at bytes at = two_at bytes at + 65536 * two_at bytes (at + 2)

abbrev pub low_two : ℕ → List ℕ
low_two n = n % 256 ∷ n / 256 % 256 ∷ []

abbrev pub low_four : ℕ → List ℕ
low_four n = n % 256 ∷ n / 256 % 256 ∷ n / 65536 % 256 ∷ n / 16777216 % 256 ∷ []

-- ---- a record: a two-byte length of what follows it, a two-byte kind, a body

-- the known kinds: 1
unfoldable pub known_kind : ℕ → Bool
known_kind kind = eqb kind 1

-- a known kind's length, and the bytes of its record, which has that length before it
abbrev pub record_length : ℕ
record_length = 12

abbrev pub record_bytes : ℕ
record_bytes = 14

-- its kind and the fields of its body
unfoldable pub fields_at : List ℕ → ℕ → Entry
fields_at bytes at =
    record {
      kind = two_at bytes (at + 2);
      slot = get_or bytes (at + 4) 0;
      mode = get_or bytes (at + 5) 0;
      hundredths = two_at bytes (at + 6);
      tenthousandths = two_at bytes (at + 8);
      serial = four_at bytes (at + 10);
    }

-- its bytes
unfoldable pub record_of : Entry → List ℕ
record_of e =
    low_two record_length ++ low_two e.kind ++ (e.slot ∷ e.mode ∷ []) ++ low_two e.hundredths ++ low_two e.tenthousandths ++ low_four e.serial

-- ---- its lines

-- 9: the file ends in its length, or before what its length says
abbrev pub cut_short : List ℕ → ℕ → Bool
cut_short bytes at = ltb (length bytes - at) 2 || ltb (length bytes - at) (2 + two_at bytes at)

-- 9: a length below 2, or one wrong for a known kind
abbrev pub wrong_length : List ℕ → ℕ → Bool
wrong_length bytes at = ltb (two_at bytes at) 2 || (known_kind (two_at bytes (at + 2)) && not (eqb (two_at bytes at) record_length))

-- 11: a field out of its range; any serial is within it
abbrev pub bad_fields : Entry → Bool
bad_fields e = ltb 1 e.slot || bad_mode e.mode || ltb 10000 e.hundredths || ltb 10000 e.tenthousandths

-- the number of the record at `at`
unfoldable pub number_at : List ℕ → ℕ → ℕ
number_at bytes at =
    first_of
    ((cut_short bytes at || wrong_length bytes at, 9)
    ∷ (not (known_kind (two_at bytes (at + 2))), 10)
    ∷ (bad_fields (fields_at bytes at), 11)
    ∷ [])

-- a record that can be written
pub record Valid (e : Entry) : Type 0 where
  pub kind : known_kind e.kind ≡ true
  pub fields : bad_fields e ≡ false
  pub serial : e.serial < 4294967296

-- a file of these records
unfoldable pub records_of : List Entry → List ℕ
records_of [] = []
records_of (e ∷ es) = record_of e ++ records_of es

-- each of them can be written
pub data AllValid : List Entry → Type 0 where
  none : AllValid []
  more : {e : Entry} {es : List Entry} → Valid e → AllValid es → AllValid (e ∷ es)

-- every number is a byte
abbrev pub AllBytes : List ℕ → Type 0
AllBytes bytes = (i : ℕ) → get_or bytes i 0 < 256

-- ---- what the code makes of a record

-- the number of a kind, and of a slot
abbrev pub kind_number : Kind → ℕ
kind_number Kind.Slot = 1

abbrev pub slot_number : Slot → ℕ
slot_number Slot.Zero = 0
slot_number Slot.One = 1

-- the kind, or the slot, of this number; where there is none, the line's refusal
abbrev pub IsKind : ℕ → Result Kind Refusal → Type 0
IsKind n r = MatchResult r (λ kind. kind_number kind ≡ n) (λ refusal. (refusal ≡ Refusal.Kind) × (known_kind n ≡ false))

abbrev pub IsSlot : ℕ → Result Slot Refusal → Type 0
IsSlot n r = MatchResult r (λ slot. slot_number slot ≡ n) (λ refusal. (refusal ≡ Refusal.Field) × (ltb 1 n ≡ true))

-- 11, of a slot's settings
abbrev pub bad_settings : PatchSlot → Bool
bad_settings s = bad_mode s.mode || ltb 10000 s.hundredths || ltb 10000 s.tenthousandths

-- a record's kind and fields
abbrev pub entry_as : Record → Entry
entry_as r =
    record {
      kind = kind_number Kind.Slot;
      slot = slot_number r.slot;
      mode = r.settings.mode;
      hundredths = r.settings.hundredths;
      tenthousandths = r.settings.tenthousandths;
      serial = r.serial;
    }

-- the record of these fields; where there is none, the number of line 10 or 11
abbrev pub IsRecord : Entry → Result Record Refusal → Type 0
IsRecord e r =
    (number_of r ≡ first_of ((not (known_kind e.kind), 10) ∷ (bad_fields e, 11) ∷ [])) × IfOk r (λ x. entry_as x ≡ e)
