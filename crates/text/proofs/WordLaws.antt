-- A line's words by std's `split`. Assumes nothing.
use mathlib.Core.Path.{◌≡◌, refl, sym, ap, ◌∙◌}
use mathlib.Core.Bool.{Bool, true, false, not}
use mathlib.Core.List.{List, [], ◌∷◌, ◌++◌, append_assoc, append-nil}
use Prim.Native.Nat.{ℕ, ◌+◌}
use native.Mathlib.Omega.{arith}
use lib.ListN.{length}
use borrow.Author.Tests.{ne_eqb}
use Rattle.std.specs.Prelude.{◌==◌}
use Rattle.std.specs.List.{slice_split, onto_first, filter, count_by}
use Rattle.std.proofs.lemmas.List.Splits.{length-slice_split}
use Rattle.text.specs.Lines.{unless_empty}
use Rattle.text.specs.Decimal.{blank, words_from, words_of}

-- the parts that blanks leave
abbrev pub parts_of : List ℕ → List (List ℕ)
parts_of line = slice_split blank line

-- those that are not empty
abbrev pub full_of : List (List ℕ) → List (List ℕ)
full_of parts = filter (λ part. not (length part == 0)) parts

-- bytes before the first part
onto : List ℕ → List (List ℕ) → List (List ℕ)
onto w [] = w ∷ []
onto w (part ∷ parts) = (w ++ part) ∷ parts

onto_none : (line : List ℕ) → onto [] (parts_of line) ≡ parts_of line
unfolding onto
onto_none line = by_parts (parts_of line) (length-slice_split blank line)
  where
    by_parts : (parts : List (List ℕ)) → length parts ≡ count_by blank line + 1 → onto [] parts ≡ parts
    by_parts [] e = absurd (omega arith)
    by_parts (part ∷ parts) e = refl

onto_one : (w : List ℕ) (b : ℕ) (parts : List (List ℕ)) → onto w (onto_first b parts) ≡ onto (w ++ (b ∷ [])) parts
unfolding onto
onto_one w b [] = refl
onto_one w b (part ∷ parts) = ap (λ (l : List ℕ). l ∷ parts) (sym (append_assoc w (b ∷ []) part))

full_first : (w : List ℕ) (parts : List (List ℕ)) → full_of (w ∷ parts) ≡ unless_empty w ++ full_of parts
unfolding unless_empty
full_first [] parts = refl
full_first (b ∷ w) parts = rw (ne_eqb (length (b ∷ w)) 0 (λ e. omega arith))

words_more : (w line : List ℕ) → full_of (onto w (parts_of line)) ≡ words_from w line
unfolding words_from onto
words_more w [] = rw (append-nil w) (full_first w [] ∙ append-nil (unless_empty w))
words_more w (b ∷ bs) = by_blank (blank b) refl (words_more [] bs) (words_more (w ++ (b ∷ [])) bs)
  where
    by_blank : (t : Bool) → blank b ≡ t → full_of (onto [] (parts_of bs)) ≡ words_from [] bs
        → full_of (onto (w ++ (b ∷ [])) (parts_of bs)) ≡ words_from (w ++ (b ∷ [])) bs
        → full_of (onto w (parts_of (b ∷ bs))) ≡ words_from w (b ∷ bs)
    by_blank true h e _ =
        rw (h, append-nil w, full_first w (parts_of bs)) (ap (λ (l : List (List ℕ)). unless_empty w ++ l) (ap full_of (sym (onto_none bs)) ∙ e))
    by_blank false h _ e = rw (h, onto_one w b (parts_of bs)) e

pub words_found : (line : List ℕ) → full_of (parts_of line) ≡ words_of line
words_found line = ap full_of (sym (onto_none line)) ∙ words_more [] line
