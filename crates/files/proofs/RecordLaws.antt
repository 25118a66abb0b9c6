-- The converse of FileLaws: an accepted file is a list of valid records, and so are the bytes before a refusal. Assumes nothing.
use mathlib.Core.Path.{◌≡◌, refl, sym, ◌∙◌, ap}
use mathlib.Core.Bool.{Bool, true, false}
use mathlib.Core.List.{List, [], ◌∷◌, ◌++◌, append_assoc, append-nil}
use Prim.Native.Nat.{ℕ, zero, suc, ◌+◌, ◌*◌, ◌/◌, ◌%◌, ◌≤◌, ◌<◌}
use native.Mathlib.Nat.{mod-eq_of_lt, add_assoc, add-zero, add-suc}
use native.Mathlib.Omega.{arith}
use borrow.Author.Tests.{ltb-true, ltb-false, eqb-true, eqb-false}
use lib.Dec.{ltb, eqb}
use lib.ListN.{length, get_or, take, drop, drop_of_length-le}
use lib.Seq.{drop-cons, take_at}
use Rattle.files.specs.declared.reader.Slots.{Slots}
use Rattle.files.specs.declared.fields.Entry.{Entry}
use Rattle.files.specs.Format.{limit, two_at, four_at, fields_at, number_at, record_of, records_of, Valid, AllValid, none, more, AllBytes}
use Rattle.files.specs.Reader.{Reading, empty_slots, superseded, held_of, accepted_as, refused_at, read_from, reading_of}
use Rattle.files.specs.Records.{Accepted, Refused}
use Rattle.files.proofs.LatestLaws.{latest_0, latest_1}
use Rattle.files.proofs.ReaderLaws.{Passed, passed, more_records, refuses, ends_here, over_limit, within_limit}

-- ---- numbers of bytes

two_low : (a b : ℕ) → a < 256 → (a + 256 * b) % 256 ≡ a
two_low a b h = omega arith

two_high : (a b : ℕ) → a < 256 → b < 256 → (a + 256 * b) / 256 % 256 ≡ b
two_high a b ha hb = let e : (a + 256 * b) / 256 ≡ b = omega arith in rw e (mod-eq_of_lt hb)

module _ (a b c d : ℕ) (ha : a < 256) (hb : b < 256) (hc : c < 256) (hd : d < 256) where
  abbrev n : ℕ
  n = a + 256 * b + 65536 * (c + 256 * d)

  four_0 : n % 256 ≡ a
  four_0 = omega arith

  four_1 : n / 256 % 256 ≡ b
  four_1 = let e : n / 256 ≡ b + 256 * (c + 256 * d) = omega arith in rw e (omega arith)

  four_2 : n / 65536 % 256 ≡ c
  four_2 = let e : n / 65536 ≡ c + 256 * d = omega arith in rw e (omega arith)

  four_3 : n / 16777216 % 256 ≡ d
  four_3 = let e : n / 16777216 ≡ d = omega arith in rw e (mod-eq_of_lt hd)

  small_four : n < 4294967296
  small_four = omega arith

-- ---- the bytes from a place on

module _ (bytes : List ℕ) (at : ℕ) where
  cells : ℕ → ℕ → List ℕ → List ℕ
  cells zero j rest = rest
  cells (suc n) j rest = get_or bytes (at + j) 0 ∷ cells n (suc j) rest

  drop_cells : (n j : ℕ) → at + j + n ≤ length bytes → drop (at + j) bytes ≡ cells n j (drop (at + j + n) bytes)
  unfolding cells
  drop_cells zero j h = rw (add-zero (at + j))
  drop_cells (suc n) j h =
      let next : at + j + suc n ≡ at + suc j + n = omega arith in
      drop-cons bytes (at + j) 0 (omega arith)
      ∙ ap (λ (l : List ℕ). get_or bytes (at + j) 0 ∷ l) (ap (λ (k : ℕ). drop k bytes) (sym (add-suc at j)) ∙ drop_cells n (suc j) (omega arith) ∙ rw next)

  -- a record that passes is the bytes of its fields
  module _ (small : AllBytes bytes) (p : Passed bytes at) where
    pub valid : Valid (fields_at bytes at)
    unfolding fields_at four_at two_at
    valid =
        record {
          kind = p.known;
          fields = p.fields;
          serial = small_four _ _ _ _ (small (at + 10)) (small (at + 10 + 1)) (small (at + 10 + 2)) (small (at + 10 + 2 + 1));
        }

    record_here : drop at bytes ≡ record_of (fields_at bytes at) ++ drop (at + 14) bytes
    unfolding cells record_of fields_at four_at two_at
    record_here =
        let size = p.sized in
        let b0 : get_or bytes at 0 ≡ 12 = omega (arith, small at, small (at + 1)) in
        let b1 : get_or bytes (at + 1) 0 ≡ 0 = omega (arith, small at, small (at + 1)) in
        ap (λ (k : ℕ). drop k bytes) (sym (add-zero at)) ∙ drop_cells 14 0 (rw (add-zero at) p.whole)
        ∙ rw (
          add-zero at,
          b0,
          b1,
          add_assoc at 2 1,
          add_assoc at 6 1,
          add_assoc at 8 1,
          add_assoc at 10 1,
          add_assoc at 10 2,
          add_assoc at 12 1,
          two_low _ _ (small (at + 2)),
          two_high _ _ (small (at + 2)) (small (at + 3)),
          two_low _ _ (small (at + 6)),
          two_high _ _ (small (at + 6)) (small (at + 7)),
          two_low _ _ (small (at + 8)),
          two_high _ _ (small (at + 8)) (small (at + 9)),
          four_0 _ _ _ _ (small (at + 10)) (small (at + 11)) (small (at + 12)) (small (at + 13)),
          four_1 _ _ _ _ (small (at + 10)) (small (at + 11)) (small (at + 12)) (small (at + 13)),
          four_2 _ _ _ _ (small (at + 10)) (small (at + 11)) (small (at + 12)) (small (at + 13)),
          four_3 _ _ _ _ (small (at + 10)) (small (at + 11)) (small (at + 12)) (small (at + 13)),
        )

-- ---- the records from a place on

-- where reading stops, after records that left s: at the file's end, or at a record that does not pass
data End (bytes : List ℕ) (stop : ℕ) (s : Slots) (r : Reading) : Type 0 where
  at_end_lem : length bytes ≤ stop → r ≡ accepted_as s → End bytes stop s r
  stopped : stop < length bytes → (number_at bytes stop ≡ 0 → ⊥) → r ≡ refused_at (number_at bytes stop) stop → End bytes stop s r

-- from `at` on, the valid records up to there
record Walked (bytes : List ℕ) (at : ℕ) (s : Slots) (r : Reading) : Type 0 where
  entries : List Entry
  valid : AllValid entries
  same : drop at bytes ≡ records_of entries ++ drop (at + 14 * length entries) bytes
  ends : End bytes (at + 14 * length entries) (held_of s entries) r

module _ (bytes : List ℕ) where
  stops : (at : ℕ) (s : Slots) (r : Reading) → End bytes at s r → Walked bytes at s r
  unfolding records_of held_of
  stops at s r e = record { entries = []; valid = none; same = rw (add-zero at); ends = rw (add-zero at) e }

  module _ (small : AllBytes bytes) where
    goes : (at : ℕ) (s : Slots) (r : Reading) → Passed bytes at → Walked bytes (at + 14) (superseded s (fields_at bytes at)) r → Walked bytes at s r
    unfolding records_of held_of
    goes at s r p w =
        let e = fields_at bytes at in
        let es = w.entries in
        let place : at + 14 * suc (length es) ≡ at + 14 + 14 * length es = omega arith in
        record {
          entries = e ∷ es;
          valid = more (valid bytes at small p) w.valid;
          same = record_here bytes at small p ∙ rw (w.same, place, append_assoc);
          ends = rw place w.ends;
        }

    turn : (k at : ℕ) (s : Slots) (a b : Bool) → ltb at (length bytes) ≡ a → eqb (number_at bytes at) 0 ≡ b
        → Walked bytes (at + 14) (superseded s (fields_at bytes at)) (read_from bytes k (at + 14) (superseded s (fields_at bytes at)))
        → Walked bytes at s (read_from bytes (suc k) at s)
    turn k at s false b ea eb w = let h = ltb-false _ _ ea in stops at s _ (at_end_lem h (ends_here bytes at s (suc k) h))
    turn k at s true true ea eb w =
        let h = ltb-true _ _ ea in
        let z = eqb-true _ _ eb in
        rw (more_records bytes at s k h z) (goes at s _ (passed bytes at z) w)
    turn k at s true false ea eb w =
        let h = ltb-true _ _ ea in
        let ne = eqb-false _ _ eb in
        stops at s _ (stopped h ne (refuses bytes at s k h ne))

    walk : (k at : ℕ) (s : Slots) → length bytes ≤ at + k → Walked bytes at s (read_from bytes k at s)
    walk zero at s room = stops at s _ (at_end_lem (omega arith) (ends_here bytes at s 0 (omega arith)))
    walk (suc k) at s room =
        turn k at s (ltb at (length bytes)) (eqb (number_at bytes at) 0) refl refl
        (walk k (at + 14) (superseded s (fields_at bytes at)) (omega arith))

-- ---- a file

pub length_records : (es : List Entry) → length (records_of es) ≡ 14 * length es
unfolding records_of record_of
length_records [] = refl
length_records (e ∷ es) = omega (arith, length_records es)

module _ (bytes : List ℕ) (small : AllBytes bytes) where
  -- a file over the limit, and one within it
  data File : Type 0 where
    over : limit < length bytes → reading_of bytes ≡ refused_at 9 0 → File
    within : length bytes ≤ limit → Walked bytes 0 empty_slots (reading_of bytes) → File

  file : File
  file = go (ltb limit (length bytes)) refl
    where
      go : (a : Bool) → ltb limit (length bytes) ≡ a → File
      go true e = let h = ltb-true _ _ e in over h (sym (over_limit bytes h))
      go false e =
          let h = ltb-false _ _ e in
          within h (rw (within_limit bytes h) at (walk bytes small (length bytes) 0 empty_slots (omega arith)))

  pub accepted_file : (reading_of bytes).number ≡ 0 → Accepted bytes
  accepted_file zero_number = go file
    where
      walked : length bytes ≤ limit → (w : Walked bytes 0 empty_slots (reading_of bytes))
          → End bytes (0 + 14 * length w.entries) (held_of empty_slots w.entries) (reading_of bytes) → Accepted bytes
      walked few w (at_end_lem h e) =
          record {
            entries = w.entries;
            valid = w.valid;
            same = w.same ∙ rw (drop_of_length-le bytes h) (append-nil (records_of w.entries));
            few = few;
            reads = e;
            latest0 = latest_0 w.entries;
            latest1 = latest_1 w.entries w.valid;
          }
      walked few w (stopped h ne e) = absurd (ne (sym (ap (λ r. r.number) e) ∙ zero_number))

      go : File → Accepted bytes
      go (over h e) = absurd (let z : 9 ≡ 0 = sym (ap (λ r. r.number) e) ∙ zero_number in omega arith)
      go (within h w) = walked h w w.ends

  pub refused_file : ((reading_of bytes).number ≡ 0 → ⊥) → Refused bytes
  unfolding records_of
  refused_file refused = go file
    where
      walked : length bytes ≤ limit → (w : Walked bytes 0 empty_slots (reading_of bytes))
          → End bytes (0 + 14 * length w.entries) (held_of empty_slots w.entries) (reading_of bytes) → Refused bytes
      walked few w (at_end_lem h e) = absurd (refused (ap (λ r. r.number) e))
      walked few w (stopped h ne e) =
          let es = w.entries in
          let at : (reading_of bytes).at ≡ 0 + 14 * length es = ap (λ r. r.at) e in
          let size : length (records_of es) ≡ (reading_of bytes).at = omega (arith, length_records es) in
          record {
            entries = es;
            valid = w.valid;
            before = ap (take (reading_of bytes).at) w.same ∙ take_at (records_of es) _ _ size;
            place = omega arith;
            patch = ap (λ r. r.patch) e;
            above = λ many. absurd (omega arith);
            within = λ some. omega arith;
            number = λ some. ap (λ r. r.number) e ∙ ap (number_at bytes) (sym at);
          }

      go : File → Refused bytes
      go (over h e) =
          let at : (reading_of bytes).at ≡ 0 = ap (λ r. r.at) e in
          record {
            entries = [];
            valid = none;
            before = rw at;
            place = at;
            patch = ap (λ r. r.patch) e;
            above = λ many. (ap (λ r. r.number) e, at);
            within = λ few. absurd (omega arith);
            number = λ few. absurd (omega arith);
          }
      go (within h w) = walked h w w.ends
