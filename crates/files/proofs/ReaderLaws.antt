-- The laws of reading: what a record that passes has, and a loop over the records. Assumes nothing.
use mathlib.Core.Path.{◌≡◌, refl, sym, ◌∙◌}
use mathlib.Core.Bool.{true, false, not, ◌||◌, ◌&&◌}
use mathlib.Core.List.{List}
use Prim.Native.Nat.{ℕ, zero, suc, ◌+◌, ◌-◌, ◌≤◌, ◌<◌}
use native.Mathlib.Omega.{arith}
use borrow.Author.Tests.{ltb-false, eqb-true, not-false, lt-ltb, le-ltb, eq-eqb, ne_eqb}
use lib.Dec.{ltb, eqb}
use lib.ListN.{length}
use Rattle.std.proofs.lemmas.Bool.{or_parts, false_from_ne_true}
use Rattle.files.specs.declared.reader.Slots.{Slots}
use Rattle.files.specs.Format.{limit, cut_short, wrong_length, known_kind, bad_fields, two_at, fields_at, number_at}
use Rattle.files.specs.Reader.{empty_slots, superseded, accepted_as, refused_at, read_from, reading_of}
use Rattle.files.proofs.NumberLaws.{nine, ten, eleven}

-- ---- a record that passes

pub record Passed (bytes : List ℕ) (at : ℕ) : Type 0 where
  pub sized : two_at bytes at ≡ 12
  pub known : known_kind (two_at bytes (at + 2)) ≡ true
  pub whole : at + 14 ≤ length bytes
  pub fields : bad_fields (fields_at bytes at) ≡ false

pub passed : (bytes : List ℕ) (at : ℕ) → number_at bytes at ≡ 0 → Passed bytes at
passed bytes at e =
    let sound : (cut_short bytes at || wrong_length bytes at) ≡ false =
    false_from_ne_true _ (λ h. let n : 9 ≡ 0 = nine bytes at h ∙ e in absurd (omega arith)) in
    let kind : not (known_kind (two_at bytes (at + 2))) ≡ false =
    false_from_ne_true _ (λ h. let n : 10 ≡ 0 = ten bytes at sound h ∙ e in absurd (omega arith)) in
    let fields : bad_fields (fields_at bytes at) ≡ false =
    false_from_ne_true _ (λ h. let n : 11 ≡ 0 = eleven bytes at sound kind h ∙ e in absurd (omega arith)) in
    let both = or_parts (cut_short bytes at) (wrong_length bytes at) sound in
    let cut = or_parts (ltb (length bytes - at) 2) (ltb (length bytes - at) (2 + two_at bytes at)) both.0 in
    let wrong = or_parts (ltb (two_at bytes at) 2) (known_kind (two_at bytes (at + 2)) && not (eqb (two_at bytes at) 12)) both.1 in
    let is_known : known_kind (two_at bytes (at + 2)) ≡ true = not-false _ kind in
    let is_sized : eqb (two_at bytes at) 12 ≡ true = not-false _ (rw is_known at wrong.1) in
    let sized : two_at bytes at ≡ 12 = eqb-true _ _ is_sized in
    let left : 2 + two_at bytes at ≤ length bytes - at = ltb-false _ _ cut.1 in
    record {
      sized = sized;
      known = is_known;
      whole = omega arith;
      fields = fields;
    }

-- ---- a loop over the records

-- what is left to read from `at` on, after records that left s, is the whole file's reading
pub record Onward (bytes : List ℕ) (at : ℕ) (s : Slots) : Type 0 where
  pub most : ℕ
  pub room : length bytes ≤ at + most
  pub same : read_from bytes most at s ≡ read_from bytes (length bytes) 0 empty_slots

pub onward_none : (bytes : List ℕ) → Onward bytes 0 empty_slots
onward_none bytes = record { most = length bytes; room = omega arith; same = refl }

module _ (bytes : List ℕ) (at : ℕ) (s : Slots) where
  -- a turn of the definition, at a record that passes, at one that does not, and past the end
  pub more_records : (k : ℕ) → at < length bytes → number_at bytes at ≡ 0
      → read_from bytes (suc k) at s ≡ read_from bytes k (at + 14) (superseded s (fields_at bytes at))
  unfolding read_from
  more_records k h e = rw (lt-ltb at (length bytes) h, eq-eqb (number_at bytes at) 0 e)

  pub refuses : (k : ℕ) → at < length bytes → (number_at bytes at ≡ 0 → ⊥) → read_from bytes (suc k) at s ≡ refused_at (number_at bytes at) at
  unfolding read_from
  refuses k h ne = rw (lt-ltb at (length bytes) h, ne_eqb (number_at bytes at) 0 ne)

  pub ends_here : (k : ℕ) → length bytes ≤ at → read_from bytes k at s ≡ accepted_as s
  unfolding read_from
  ends_here zero h = refl
  ends_here (suc k) h = rw (le-ltb at (length bytes) h)

  pub onward_more : at < length bytes → number_at bytes at ≡ 0 → Onward bytes at s
      → Onward bytes (at + 14) (superseded s (fields_at bytes at))
  onward_more h e was = go was.most was.room was.same
    where
      go : (k : ℕ) → length bytes ≤ at + k → read_from bytes k at s ≡ read_from bytes (length bytes) 0 empty_slots
          → Onward bytes (at + 14) (superseded s (fields_at bytes at))
      go zero room same = absurd (omega arith)
      go (suc k) room same = record { most = k; room = omega arith; same = sym (more_records k h e) ∙ same }

  pub onward_refused : at < length bytes → (number_at bytes at ≡ 0 → ⊥) → Onward bytes at s
      → refused_at (number_at bytes at) at ≡ read_from bytes (length bytes) 0 empty_slots
  onward_refused h ne was = go was.most was.room was.same
    where
      go : (k : ℕ) → length bytes ≤ at + k → read_from bytes k at s ≡ read_from bytes (length bytes) 0 empty_slots
          → refused_at (number_at bytes at) at ≡ read_from bytes (length bytes) 0 empty_slots
      go zero room same = absurd (omega arith)
      go (suc k) room same = sym (refuses k h ne) ∙ same

  pub onward_done : length bytes ≤ at → Onward bytes at s → accepted_as s ≡ read_from bytes (length bytes) 0 empty_slots
  onward_done h was = sym (ends_here was.most h) ∙ was.same

-- ---- the limit

pub over_limit : (bytes : List ℕ) → limit < length bytes → refused_at 9 0 ≡ reading_of bytes
unfolding reading_of
over_limit bytes h = rw (lt-ltb limit (length bytes) h)

pub within_limit : (bytes : List ℕ) → length bytes ≤ limit → read_from bytes (length bytes) 0 empty_slots ≡ reading_of bytes
unfolding reading_of
within_limit bytes h = rw (le-ltb limit (length bytes) h)
