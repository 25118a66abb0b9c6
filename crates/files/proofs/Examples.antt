-- Files, and a written patch, that can be followed by hand; a third as the card's floats. Assumes nothing.
use mathlib.Core.Path.{◌≡◌, refl}
use mathlib.Core.List.{List, [], ◌∷◌, ◌++◌}
use Prim.Native.Nat.{ℕ}
use Rattle.limits.specs.Lines.{first_of}
use Rattle.files.specs.Patch.{card_amount, card_character}
use Rattle.files.specs.Writer.{file_of}
use Rattle.floats.specs.F32.{bits}
use Rattle.files.specs.Format.{two_at, four_at, known_kind, fields_at, number_at, record_of}
use Rattle.files.specs.Reader.{off_slot, later_of, superseded, refused_at, read_from, reading_of}

-- no byte: both slots are off
pub empty_file : reading_of [] ≡ record { number = 0; at = 0; patch = record { slot0 = off_slot; slot1 = off_slot } }
unfolding reading_of read_from
empty_file = refl

-- slot 0 HardClip, 50.00 percent, character 0.2500
abbrev hard_clip : List ℕ
hard_clip = 0x0c ∷ 0x00 ∷ 0x01 ∷ 0x00 ∷ 0x00 ∷ 0x15 ∷ 0x88 ∷ 0x13 ∷ 0xc4 ∷ 0x09 ∷ 0x01 ∷ 0x00 ∷ 0x00 ∷ 0x00 ∷ []

pub one_record : reading_of hard_clip
    ≡ record { number = 0; at = 0; patch = record { slot0 = record { mode = 21; hundredths = 5000; tenthousandths = 2500 }; slot1 = off_slot } }
unfolding reading_of read_from number_at first_of two_at four_at known_kind fields_at superseded later_of
one_record = refl

-- its last byte missing, after a whole one
pub cut_short_lem : reading_of (hard_clip ++ 0x0c ∷ 0x00 ∷ 0x01 ∷ 0x00 ∷ 0x00 ∷ 0x15 ∷ 0x88 ∷ 0x13 ∷ 0xc4 ∷ 0x09 ∷ 0x01 ∷ 0x00 ∷ 0x00 ∷ []) ≡ refused_at 9 14
unfolding reading_of read_from number_at first_of two_at four_at known_kind fields_at superseded later_of
cut_short_lem = refl

-- kind 7 without a body, and kind 1 without one
pub unknown_kind : reading_of (0x02 ∷ 0x00 ∷ 0x07 ∷ 0x00 ∷ []) ≡ refused_at 10 0
unfolding reading_of read_from number_at first_of two_at known_kind
unknown_kind = refl

pub no_body : reading_of (0x02 ∷ 0x00 ∷ 0x01 ∷ 0x00 ∷ []) ≡ refused_at 9 0
unfolding reading_of read_from number_at first_of two_at known_kind
no_body = refl

-- mode 70 in the second record
pub bad_mode_lem : reading_of (hard_clip ++ 0x0c ∷ 0x00 ∷ 0x01 ∷ 0x00 ∷ 0x00 ∷ 0x46 ∷ 0x88 ∷ 0x13 ∷ 0xc4 ∷ 0x09 ∷ 0x01 ∷ 0x00 ∷ 0x00 ∷ 0x00 ∷ []) ≡ refused_at 11 14
unfolding reading_of read_from number_at first_of two_at four_at known_kind fields_at superseded later_of
bad_mode_lem = refl

-- serials 5, 5 and 3 of slot 1, with modes 1, 2 and 3: the second counts
abbrev slot1 : ℕ → ℕ → List ℕ
slot1 mode serial = record_of (record { kind = 1; slot = 1; mode = mode; hundredths = 0; tenthousandths = 0; serial = serial })

pub ties : (reading_of (slot1 1 5 ++ slot1 2 5 ++ slot1 3 3)).patch.slot1 ≡ record { mode = 2; hundredths = 0; tenthousandths = 0 }
unfolding record_of reading_of read_from number_at first_of two_at four_at known_kind fields_at superseded later_of
ties = refl

-- serials 256 and 255 by their bytes: the first counts
abbrev serials : List ℕ
serials =
    0x0c ∷ 0x00 ∷ 0x01 ∷ 0x00 ∷ 0x00 ∷ 0x01 ∷ 0x00 ∷ 0x00 ∷ 0x00 ∷ 0x00 ∷ 0x00 ∷ 0x01 ∷ 0x00 ∷ 0x00
    ∷ 0x0c ∷ 0x00 ∷ 0x01 ∷ 0x00 ∷ 0x00 ∷ 0x02 ∷ 0x00 ∷ 0x00 ∷ 0x00 ∷ 0x00 ∷ 0xff ∷ 0x00 ∷ 0x00 ∷ 0x00 ∷ []

pub serial_bytes : (reading_of serials).patch.slot0 ≡ record { mode = 1; hundredths = 0; tenthousandths = 0 }
unfolding reading_of read_from number_at first_of two_at four_at known_kind fields_at superseded later_of
serial_bytes = refl

-- what a writer writes
pub written : file_of (record { slot0 = record { mode = 21; hundredths = 5000; tenthousandths = 2500 }; slot1 = off_slot })
    ≡ hard_clip ++ 0x0c ∷ 0x00 ∷ 0x01 ∷ 0x00 ∷ 0x01 ∷ 0x00 ∷ 0x00 ∷ 0x00 ∷ 0x00 ∷ 0x00 ∷ 0x01 ∷ 0x00 ∷ 0x00 ∷ 0x00 ∷ []
unfolding file_of record_of
written = refl

pub amount_third : card_amount 3333 ≡ bits 0x4205_51ec
unfolding card_amount lib.Ieee.of_bits lib.Ieee.div lib.Ieee.of_int
amount_third = refl

pub character_third : card_character 3333 ≡ bits 0x3eaa_a64c
unfolding card_character lib.Ieee.of_bits lib.Ieee.div lib.Ieee.of_int
character_third = refl
