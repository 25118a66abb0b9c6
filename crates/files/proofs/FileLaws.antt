-- A file of records that can be written is read as those records; so a written patch is read as it was. Assumes nothing.
use mathlib.Core.Path.{◌≡◌, refl, sym, ◌∙◌, ap}
use mathlib.Core.Bool.{false}
use mathlib.Core.List.{List, [], ◌∷◌, ◌++◌, append_assoc, append-nil}
use Prim.Native.Nat.{ℕ, zero, suc, ◌+◌, ◌-◌, ◌*◌, ◌/◌, ◌%◌, ◌≤◌, ◌<◌}
use native.Mathlib.Nat.{mod-eq_of_lt, add_assoc, add-zero}
use native.Mathlib.Omega.{arith}
use lib.ListN.{length, take, drop, length-append}
use lib.Seq.{get_or-append-add, take_at}
use Rattle.std.proofs.lemmas.Bool.{or_parts}
use Rattle.files.specs.declared.patches.Patch.{Patch}
use Rattle.files.specs.declared.reader.Slots.{Slots}
use Rattle.files.specs.declared.answers.Written.{Written}
use Rattle.files.specs.declared.fields.Entry.{Entry}
use Rattle.files.specs.Format.{limit, two_at, four_at, known_kind, fields_at, number_at, bad_fields, record_of, records_of, Valid, AllValid, none, more}
use Rattle.files.specs.Reader.{empty_slots, superseded, later_of, held_of, accepted_as, read_from, reading_of}
use Rattle.files.specs.Writer.{entry_of, file_of, Wrote}
use Rattle.files.proofs.FieldLaws.{good_fields, small_kind}
use Rattle.files.proofs.NumberLaws.{good}
use Rattle.files.proofs.ReaderLaws.{more_records, ends_here, within_limit}
use Rattle.files.proofs.WriterLaws.{passed as writing-passed}

-- ---- numbers back from their bytes

two_back : (n : ℕ) → n < 65536 → n % 256 + 256 * (n / 256 % 256) ≡ n
two_back n h = let small : n / 256 < 256 = omega arith in rw (mod-eq_of_lt small) (omega arith)

four_back : (n : ℕ) → n < 4294967296
    → n % 256 + 256 * (n / 256 % 256) + 65536 * (n / 65536 % 256 + 256 * (n / 16777216 % 256)) ≡ n
four_back n h =
    let small : n / 16777216 < 256 = omega arith in
    rw (mod-eq_of_lt small) (omega arith)

-- ---- a place after some bytes

module _ (pre ys : List ℕ) where
  two_after : (k : ℕ) → two_at (pre ++ ys) (length pre + k) ≡ two_at ys k
  unfolding two_at
  two_after k = rw (add_assoc (length pre) k 1, get_or-append-add pre ys k 0, get_or-append-add pre ys (k + 1) 0)

  four_after : (k : ℕ) → four_at (pre ++ ys) (length pre + k) ≡ four_at ys k
  unfolding four_at
  four_after k = rw (add_assoc (length pre) k 2, two_after k, two_after (k + 2))

  fields_after : fields_at (pre ++ ys) (length pre) ≡ fields_at ys 0
  unfolding fields_at
  fields_after = rw (two_after 2, get_or-append-add pre ys 4 0, get_or-append-add pre ys 5 0, two_after 6, two_after 8, four_after 10)

  two_here : two_at (pre ++ ys) (length pre) ≡ two_at ys 0
  two_here = ap (two_at (pre ++ ys)) (sym (add-zero (length pre))) ∙ two_after 0

  left_after : length (pre ++ ys) - length pre ≡ length ys
  left_after = rw (length-append pre ys) (omega arith)

-- ---- a whole record

module _ (e : Entry) (v : Valid e) (rest : List ℕ) where
  abbrev ys : List ℕ
  ys = record_of e ++ rest

  length_is : length (record_of e) ≡ 14
  unfolding record_of
  length_is = refl

  size_is : two_at ys 0 ≡ 12
  unfolding two_at record_of
  size_is = refl

  kind_is : two_at ys 2 ≡ e.kind
  unfolding two_at record_of
  kind_is = two_back e.kind (omega (arith, small_kind e.kind v.kind))

  fields_are : fields_at ys 0 ≡ e
  unfolding fields_at two_at four_at record_of
  fields_are =
      let i = good_fields e v.fields in
      rw (
        kind_is,
        two_back e.hundredths (omega (arith, i.hundredths)),
        two_back e.tenthousandths (omega (arith, i.tenthousandths)),
        four_back e.serial v.serial,
      )

  module _ (pre : List ℕ) where
    fields_of : fields_at (pre ++ ys) (length pre) ≡ e
    fields_of = fields_after pre ys ∙ fields_are

    number_of : number_at (pre ++ ys) (length pre) ≡ 0
    number_of =
        let left = left_after pre ys in
        let size = two_here pre ys ∙ size_is in
        let room : 14 ≤ length ys = rw (length-append (record_of e) rest, length_is) (omega arith) in
        sym (good (pre ++ ys) (length pre) (omega arith) (omega arith) (omega arith) (ap known_kind (two_after pre ys 2 ∙ kind_is) ∙ v.kind) size (rw fields_of v.fields))

-- ---- a file

pub reads_records : (es : List Entry) (pre : List ℕ) (k : ℕ) (s : Slots) → AllValid es → length es ≤ k
    → read_from (pre ++ records_of es) k (length pre) s ≡ accepted_as (held_of s es)
unfolding records_of held_of
reads_records [] pre k s none h = rw (append-nil pre) (ends_here pre (length pre) s k (omega arith))
reads_records (e ∷ es) pre zero s (more v all) h = absurd (omega arith)
reads_records (e ∷ es) pre (suc k) s (more v all) h =
    let bytes = pre ++ (record_of e ++ records_of es) in
    let here : length pre < length bytes =
    rw (length-append pre (record_of e ++ records_of es), length-append (record_of e) (records_of es), length_is e v []) (omega arith) in
    let next : length (pre ++ record_of e) ≡ length pre + 14 = rw (length-append pre (record_of e), length_is e v []) in
    more_records bytes (length pre) s k here (number_of e v (records_of es) pre)
    ∙ rw (fields_of e v (records_of es) pre, ← append_assoc pre (record_of e) (records_of es), ← next)
    (reads_records es (pre ++ record_of e) k (superseded s e) all (omega arith))

few : (es : List Entry) → length es ≤ length (records_of es)
unfolding records_of record_of
few [] = omega arith
few (e ∷ es) = omega (arith, few es)

pub reads_file : (es : List Entry) → AllValid es → length (records_of es) ≤ limit → reading_of (records_of es) ≡ accepted_as (held_of empty_slots es)
reads_file es all h = sym (within_limit (records_of es) h) ∙ reads_records es [] (length (records_of es)) empty_slots all (few es)

-- ---- the round trip

module _ (p : Patch) (fields0 : bad_fields (entry_of 0 p.slot0) ≡ false) (fields1 : bad_fields (entry_of 1 p.slot1) ≡ false) where
  entries : List Entry
  entries = entry_of 0 p.slot0 ∷ entry_of 1 p.slot1 ∷ []

  pub reads_written : reading_of (file_of p) ≡ record { number = 0; at = 0; patch = p }
  unfolding entries known_kind file_of records_of record_of held_of superseded later_of
  reads_written =
      reads_file entries
      (more (record { kind = refl; fields = fields0; serial = omega arith }) (more (record { kind = refl; fields = fields1; serial = omega arith }) none))
      (omega arith)

-- the bytes that a writer wrote
pub reads_back : (p : Patch) (before after : List ℕ) (r : Written) → Wrote p before after r → r.number ≡ 0
    → reading_of (take 28 after) ≡ record { number = 0; at = 0; patch = p }
unfolding file_of record_of
reads_back p before after r w z =
    let fields = or_parts _ (bad_fields (entry_of 1 p.slot1)) (writing-passed p (length before) (sym w.number ∙ z)).0 in
    ap (λ l. reading_of (take 28 l)) (w.written z)
    ∙ ap reading_of (take_at (file_of p) (drop 28 before) 28 refl)
    ∙ reads_written p fields.0 fields.1
