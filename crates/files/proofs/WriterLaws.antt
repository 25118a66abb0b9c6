-- The laws of writing: a record's bytes by its numbers, and both records. Assumes nothing.
use mathlib.Core.Path.{◌≡◌, refl, sym, ◌∙◌, ap}
use mathlib.Core.Bool.{Bool, true, false, ◌||◌, cond}
use mathlib.Core.List.{List, ◌++◌}
use Prim.Native.Nat.{ℕ, ◌≤◌, ◌<◌}
use native.Mathlib.Omega.{arith}
use borrow.Author.Tests.{lt-ltb, le-ltb, ltb-true, ltb-false, eqb-true, eqb-false}
use lib.Dec.{ltb, eqb}
use lib.ListN.{length, drop, length-append, length-drop}
use Rattle.std.specs.Prelude.{Ok, Err, take}
use Rattle.std.proofs.lemmas.List.{drop-drop}
use Rattle.limits.specs.declared.refusal.Refusal.{Refusal}
use Rattle.limits.specs.Lines.{first_of}
use Rattle.limits.specs.Refusals.{line_of}
use Rattle.limits.proofs.LineLaws.{some_line}
use Rattle.files.specs.declared.patches.Patch.{Patch}
use Rattle.files.specs.declared.records.Slot.{Slot}
use Rattle.files.specs.declared.records.Record.{Record}
use Rattle.files.specs.declared.answers.Written.{Written}
use Rattle.files.specs.Format.{entry_as, record_of, bad_settings, bad_fields}
use Rattle.files.specs.Writer.{entry_of, file_of, writing_of, written_as, Wrote}

-- ---- the answers

module _ (p : Patch) where
  -- line 11
  abbrev pub fields : Bool
  fields = bad_fields (entry_of 0 p.slot0) || bad_fields (entry_of 1 p.slot1)

  pub eleven : (size : ℕ) → fields ≡ true → 11 ≡ writing_of p size
  unfolding writing_of first_of
  eleven size e = rw e

  pub eight : (size : ℕ) → fields ≡ false → size < 28 → 8 ≡ writing_of p size
  unfolding writing_of first_of
  eight size e h = rw (e, lt-ltb _ _ h)

  -- what is written passed both lines
  pub passed : (size : ℕ) → writing_of p size ≡ 0 → (fields ≡ false) × (28 ≤ size)
  passed size e = go fields (ltb size 28) refl refl
    where
      go : (a b : Bool) → fields ≡ a → ltb size 28 ≡ b → (fields ≡ false) × (28 ≤ size)
      go true b ea eb = absurd (let n : 11 ≡ 0 = eleven size ea ∙ e in omega arith)
      go false true ea eb = absurd (let n : 8 ≡ 0 = eight size ea (ltb-true _ _ eb) ∙ e in omega arith)
      go false false ea eb = (ea, ltb-false _ _ eb)

-- what a slot's settings answer
bad_slot : (b : Bool) (e : Refusal) → line_of e ≡ cond b 11 0 → (b ≡ true) × (line_of e ≡ 11)
bad_slot true e h = (refl, h)
bad_slot false e h = absurd (let p = some_line e in omega arith)

good_slot : (b : Bool) → ◌≡◌ {A = ℕ} 0 (cond b 11 0) → b ≡ false
good_slot true h = absurd (omega arith)
good_slot false h = refl

module _ (p : Patch) (l : List ℕ) where
  fields_refused : fields p ≡ true → (e : Refusal) → line_of e ≡ 11 → Wrote p l l (written_as (Err e))
  unfolding written_as
  fields_refused b e h =
      record {
        number = h ∙ eleven p (length l) b;
        bytes = rw h;
        refused = λ ne. refl;
        written = λ z. absurd (omega arith);
      }

  -- slot 0's settings are out of range, or slot 1's
  pub first_refused : (e : Refusal) → line_of e ≡ cond (bad_settings p.slot0) 11 0 → Wrote p l l (written_as (Err e))
  first_refused e h = let b = bad_slot (bad_settings p.slot0) e h in fields_refused (rw b.0) e b.1

  pub second_refused : (e : Refusal) → ◌≡◌ {A = ℕ} 0 (cond (bad_settings p.slot0) 11 0) → line_of e ≡ cond (bad_settings p.slot1) 11 0
      → Wrote p l l (written_as (Err e))
  second_refused e g h =
      let b = bad_slot (bad_settings p.slot1) e h in
      let a = good_slot (bad_settings p.slot0) g in
      fields_refused (rw (a, b.0)) e b.1

  module _ (first : ◌≡◌ {A = ℕ} 0 (cond (bad_settings p.slot0) 11 0)) (second : ◌≡◌ {A = ℕ} 0 (cond (bad_settings p.slot1) 11 0)) where
    fields_good : fields p ≡ false
    fields_good = let a = good_slot (bad_settings p.slot0) first in let b = good_slot (bad_settings p.slot1) second in rw (a, b)

    pub too_short : length l < 28 → Wrote p l l (written_as (Err Refusal.ShortWrite))
    unfolding written_as line_of
    too_short h = record { number = eight p (length l) fields_good h; bytes = refl; refused = λ ne. refl; written = λ z. absurd (omega arith) }

    pub wrote : (l' : List ℕ) → 28 ≤ length l → l' ≡ file_of p ++ drop 28 l → Wrote p l l' (written_as (Ok 28))
    unfolding written_as writing_of first_of
    wrote l' h same = record { number = rw (fields_good, le-ltb _ _ h); bytes = refl; refused = λ ne. absurd (ne refl); written = λ z. same }

-- both records in a buffer, and what lies past them
pub both_written : (p : Patch) (r s : Record)
    → (r.slot ≡ Slot.Zero) × (r.settings ≡ p.slot0) × (r.serial ≡ 1) → (s.slot ≡ Slot.One) × (s.settings ≡ p.slot1) × (s.serial ≡ 1)
    → (a b l : List ℕ) → a ≡ record_of (entry_as r) → b ≡ record_of (entry_as s)
    → take 14 (a ++ drop 14 l) ++ (b ++ drop 14 (drop 14 (a ++ drop 14 l))) ≡ file_of p ++ drop 28 l
unfolding file_of record_of
both_written p r s e d a b l u v = rw (u, v, e.0, e.1, e.2, d.0, d.1, d.2) (ap (λ (k : List ℕ). file_of p ++ k) (drop-drop 14 14 l))

-- ---- nothing is left open

module _ (p : Patch) (before a b : List ℕ) (r s : Written) (u : Wrote p before a r) (v : Wrote p before b s) where
  same_number : r.number ≡ s.number
  same_number = u.number ∙ sym v.number

  pub same_answer : r ≡ s
  same_answer = rw (u.bytes, v.bytes, same_number)

  pub same_end : a ≡ b
  same_end = go (eqb r.number 0) refl
    where
      go : (z : Bool) → eqb r.number 0 ≡ z → a ≡ b
      go true e =
          let z = eqb-true _ _ e in
          u.written z ∙ sym (v.written (sym same_number ∙ z))
      go false e =
          let ne = eqb-false _ _ e in
          u.refused ne ∙ sym (v.refused (λ z. ne (same_number ∙ z)))

-- a buffer keeps its length
pub same_length : (p : Patch) (before after : List ℕ) (r : Written) → Wrote p before after r → length after ≡ length before
unfolding file_of record_of
same_length p before after r w = go (eqb r.number 0) refl
  where
    go : (z : Bool) → eqb r.number 0 ≡ z → length after ≡ length before
    go false e = ap length (w.refused (eqb-false _ _ e))
    go true e =
        let z = eqb-true _ _ e in
        let room = (passed p (length before) (sym w.number ∙ z)).1 in
        ap length (w.written z) ∙ rw (length-append (file_of p) (drop 28 before), length-drop 28 before) (omega arith)
