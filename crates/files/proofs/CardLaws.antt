-- What was read can be written, and what a refused file answers is zeros. Assumes nothing.
use mathlib.Core.Path.{◌≡◌, refl}
use mathlib.Core.Bool.{Bool, true, false}
use mathlib.Core.List.{List, [], ◌∷◌}
use Prim.Native.Nat.{ℕ, ◌≤◌}
use native.Mathlib.Omega.{arith}
use borrow.Author.Tests.{le-ltb}
use lib.Dec.{ltb, eqb}
use Rattle.limits.specs.Lines.{first_of}
use Rattle.floats.specs.F32.{0f}
use Rattle.files.specs.declared.reader.Slots.{Slots}
use Rattle.files.specs.declared.reader.Held.{Held}
use Rattle.files.specs.declared.answers.CardSlot.{CardSlot}
use Rattle.files.specs.declared.fields.Entry.{Entry}
use Rattle.files.specs.Format.{Valid, AllValid, none, more, AllBytes, bad_fields}
use Rattle.files.specs.Patch.{card_amount, card_character}
use Rattle.files.specs.Reader.{off_slot, empty_slots, held_as, later_of, superseded, held_of, reading_of}
use Rattle.files.specs.Writer.{entry_of, writing_of}
use Rattle.files.specs.Card.{card_slot, card_patch}
use Rattle.files.proofs.FieldLaws.{InRange, good_fields, in_ranges}
use Rattle.files.proofs.RecordLaws.{accepted_file, refused_file}

-- ---- what was read can be written

-- a slot's fields are in their ranges
abbrev Writable : Held → Type 0
Writable h = (bad_fields (entry_of 0 h.slot) ≡ false) × (bad_fields (entry_of 1 h.slot) ≡ false)

record Both (s : Slots) : Type 0 where
  first : Writable s.held0
  second : Writable s.held1

held_writable : (h : Held) (e : Entry) → Valid e → Writable h → Writable (later_of h e)
unfolding later_of
held_writable h e v w = go (ltb e.serial h.serial) refl
  where
    i : InRange e
    i = good_fields e v.fields

    from : (j : ℕ) → j ≤ 1 → bad_fields (entry_of j (held_as e).slot) ≡ false
    from j few =
        in_ranges (entry_of j (held_as e).slot) (record { slot = few; mode = i.mode; hundredths = i.hundredths; tenthousandths = i.tenthousandths })

    go : (b : Bool) → ltb e.serial h.serial ≡ b → Writable (later_of h e)
    go true eq = rw eq w
    go false eq = rw eq (from 0 (omega arith), from 1 (omega arith))

slots_writable : (es : List Entry) (s : Slots) → AllValid es → Both s → Both (held_of s es)
unfolding held_of superseded
slots_writable [] s none b = b
slots_writable (e ∷ es) s (more v all) b = slots_writable es (superseded s e) all (go (eqb e.slot 0) refl)
  where
    go : (z : Bool) → eqb e.slot 0 ≡ z → Both (superseded s e)
    go true eq = rw eq (record { first = held_writable s.held0 e v b.first; second = b.second })
    go false eq = rw eq (record { first = b.first; second = held_writable s.held1 e v b.second })

-- an accepted file's patch is written into any buffer that has room
pub read_writable : (bytes : List ℕ) → AllBytes bytes → (reading_of bytes).number ≡ 0
    → (size : ℕ) → 28 ≤ size → writing_of (reading_of bytes).patch size ≡ 0
unfolding writing_of first_of
read_writable bytes small z size room =
    let a = accepted_file bytes small z in
    let b = slots_writable a.entries empty_slots a.valid (record { first = (refl, refl); second = (refl, refl) }) in
    rw (a.reads, b.first.0, b.second.1, le-ltb _ _ room)

-- ---- zeros

-- `Off` with zeros, in floats too
abbrev pub zeros : CardSlot
zeros = record { mode = 0; hundredths = 0; tenthousandths = 0; amount = 0f; character = 0f }

pub off_zeros : card_slot off_slot ≡ zeros
unfolding card_slot card_amount card_character lib.Ieee.of_bits lib.Ieee.div lib.Ieee.of_int
off_zeros = refl

-- a file that is turned away: its number, its place and zeros
pub refused_zeros : (bytes : List ℕ) → AllBytes bytes → ((reading_of bytes).number ≡ 0 → ⊥)
    → card_patch (reading_of bytes) ≡ record { number = (reading_of bytes).number; at = (reading_of bytes).at; slot0 = zeros; slot1 = zeros }
unfolding card_patch
refused_zeros bytes small ne =
    let none = (refused_file bytes small ne).patch in
    rw (none, off_zeros)
