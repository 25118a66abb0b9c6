-- A record by its parts: what its length counts, and the kind within that. Assumes nothing.
use Rattle.std.proofs.Common.{◌≡◌, ℕ, ◌+◌, ◌-◌, ◌*◌, ◌≤◌, ◌<◌, List, [], ◌∷◌, Bool, true, false, not, length, get_or, take, drop, refl, sym, ◌∙◌, ap, arith, length-take, length-drop}
use Rattle.std.proofs.lemmas.List.{get_or-take, get_or-drop, take_rest}
use Rattle.std.specs.List.{slice_range}
use borrow.Author.Tests.{eq-eqb}
use Rattle.limits.specs.Lines.{first_of}
use Rattle.files.specs.declared.records.Kind.{Kind}
use Rattle.files.specs.Format.{kind_number, two_at, four_at, known_kind, bad_fields, fields_at, number_at}
use Rattle.files.proofs.NumberLaws.{unknown, wrong_length_lem, bad, good}

-- ---- a record that starts within a file

module _ (bytes : List ℕ) (at : ℕ) where
  two_from : (i : ℕ) → two_at (drop at bytes) i ≡ two_at bytes (at + i)
  unfolding two_at
  two_from i = let e : at + (i + 1) ≡ at + i + 1 = omega arith in rw (get_or-drop at bytes i 0, get_or-drop at bytes (i + 1) 0, e)

  here : two_at (drop at bytes) 0 ≡ two_at bytes at
  here = let e : at + 0 ≡ at = omega arith in two_from 0 ∙ ap (two_at bytes) e

  abbrev from : List ℕ
  from = take (length bytes - at) (drop at bytes)

  pub fields_from : fields_at from 0 ≡ fields_at bytes at
  unfolding fields_at four_at
  fields_from =
      let e : at + 10 + 2 ≡ at + 12 = omega arith in
      rw (take_rest bytes at, two_from 2, get_or-drop at bytes 4 0, get_or-drop at bytes 5 0, two_from 6, two_from 8, two_from 10, two_from 12, e)

  pub number_from : number_at from 0 ≡ number_at bytes at
  unfolding number_at
  number_from =
      let left : length (drop at bytes) - 0 ≡ length bytes - at = omega (arith, length-drop {A = ℕ}) in
      rw (take_rest bytes at, left, here, two_from 2, rw take_rest at fields_from)

-- ---- its parts

-- what comes after two bytes
abbrev pub after_two : List ℕ → List ℕ
after_two s = take (length s - 2) (drop 2 s)

-- `part` is the n bytes that the record's length counts, the kind among them
pub record IsPart (rest part : List ℕ) (n : ℕ) : Type 0 where
  pub long : 2 ≤ length rest
  pub size : n ≡ get_or rest 0 0 + get_or rest 1 0 * 256
  pub whole : n ≤ length (after_two rest)
  pub is : part ≡ slice_range (after_two rest) 0 n
  pub kinded : 2 ≤ length part

module _ (rest part : List ℕ) (n : ℕ) (p : IsPart rest part n) where
  part_is : part ≡ take n (drop 2 rest)
  part_is = let z : n - 0 ≡ n = omega arith in p.is ∙ rw (z, take_rest rest 2)

  room : n + 2 ≤ length rest
  room = let w = p.whole in let l = p.long in omega (arith, length-take {A = ℕ}, length-drop {A = ℕ})

  part_size : length part ≡ n
  part_size = let r = room in rw part_is (omega (arith, length-take {A = ℕ}, length-drop {A = ℕ}))

  size_is : two_at rest 0 ≡ n
  unfolding two_at
  size_is = let s = p.size in omega arith

  byte_in : (i j : ℕ) → 2 + i ≡ j → i < n → get_or part i 0 ≡ get_or rest j 0
  byte_in i j e h = rw (part_is, get_or-take n (drop 2 rest) i 0, get_or-drop 2 rest i 0, e)

  kind_in : get_or part 0 0 + get_or part 1 0 * 256 ≡ two_at rest 2
  unfolding two_at
  kind_in = let k = p.kinded in let s = part_size in rw (byte_in 0 2 refl (omega arith), byte_in 1 3 refl (omega arith)) (omega arith)

  -- a kind that is not known
  pub unknown_in : (kind : ℕ) → kind ≡ get_or part 0 0 + get_or part 1 0 * 256 → known_kind kind ≡ false → 10 ≡ number_at rest 0
  unknown_in kind e h =
      let r = room in
      let s = part_size in
      let k = p.kinded in
      let i = size_is in
      unknown rest 0 (omega arith) (omega arith) (omega arith) (rw (e ∙ kind_in) at h)

  -- the kind that is known
  module _ (kind : Kind) (number : ℕ) (named : kind_number kind ≡ number) (e : number ≡ get_or part 0 0 + get_or part 1 0 * 256) where
    is_one : (k : Kind) → kind_number k ≡ 1
    is_one Kind.Slot = refl

    kind_is : two_at rest 2 ≡ 1
    kind_is = sym (named ∙ e ∙ kind_in) ∙ is_one kind

    is_known : known_kind (two_at rest 2) ≡ true
    unfolding known_kind
    is_known = eq-eqb _ _ kind_is

    pub other_length : (n ≡ 12 → ⊥) → 9 ≡ number_at rest 0
    other_length ne =
        let r = room in
        let k = p.kinded in
        let s = part_size in
        let i = size_is in
        wrong_length_lem rest 0 (omega arith) (omega arith) (omega arith) is_known (λ h. ne (omega arith))

    known_fields : known_kind (fields_at rest 0).kind ≡ true
    unfolding fields_at
    known_fields = is_known

    -- the number that its fields give is the record's
    pub fields_number : n ≡ 12 → first_of ((not (known_kind (fields_at rest 0).kind), 10) ∷ (bad_fields (fields_at rest 0), 11) ∷ []) ≡ number_at rest 0
    unfolding first_of
    fields_number is = by_fields (bad_fields (fields_at rest 0)) refl
      where
        by_fields : (t : Bool) → bad_fields (fields_at rest 0) ≡ t
            → first_of ((not (known_kind (fields_at rest 0).kind), 10) ∷ (bad_fields (fields_at rest 0), 11) ∷ []) ≡ number_at rest 0
        by_fields true h =
            let r = room in
            let i = size_is in
            rw (known_fields, h) (bad rest 0 (omega arith) (omega arith) (omega arith) is_known (omega arith) h)
        by_fields false h =
            let r = room in
            let i = size_is in
            rw (known_fields, h) (good rest 0 (omega arith) (omega arith) (omega arith) is_known (omega arith) h)
