-- The first words of a list moved, one word more. Assumes nothing.
use Prim.Native.Nat.{ℕ, zero, suc, ◌<◌, ◌≤◌, max}
use native.Mathlib.Nat.{le_of_suc-le-suc, not-suc-le-zero}
use mathlib.Core.Path.{◌≡◌, refl, ap}
use mathlib.Core.List.{List, [], ◌∷◌}
use lib.ListN.{length, get_or, set}
use Rattle.lanes.specs.Word.{add_words}
use Rattle.reads.specs.declared.lists.ReadList.{ReadList}
use Rattle.reads.specs.Reads.{move_first, shift_of}

pub move_next : (offset i : ℕ) (words : List ℕ) → i < length words
    → set (move_first offset i words) i (add_words (get_or (move_first offset i words) i 0) offset) ≡ move_first offset (suc i) words
unfolding move_first
move_next offset zero [] h = absurd (not-suc-le-zero h)
move_next offset zero (w ∷ words) h = refl
move_next offset (suc i) [] h = absurd (not-suc-le-zero h)
move_next offset (suc i) (w ∷ words) h = ap (λ (l : List ℕ). add_words w offset ∷ l) (move_next offset i words (le_of_suc-le-suc h))

-- no more than there are
pub move_all : (offset n k : ℕ) (words : List ℕ) → length words ≤ n → length words ≤ k → move_first offset n words ≡ move_first offset k words
unfolding move_first
move_all offset zero zero words h g = refl
move_all offset zero (suc k) [] h g = refl
move_all offset zero (suc k) (w ∷ words) h g = absurd (not-suc-le-zero h)
move_all offset (suc n) zero [] h g = refl
move_all offset (suc n) zero (w ∷ words) h g = absurd (not-suc-le-zero g)
move_all offset (suc n) (suc k) [] h g = refl
move_all offset (suc n) (suc k) (w ∷ words) h g = ap (λ (l : List ℕ). add_words w offset ∷ l) (move_all offset n k words (le_of_suc-le-suc h) (le_of_suc-le-suc g))

-- ---- the same as the code has it: the words so far, and the sum that goes into place i
pub move_none : (offset : ℕ) (words : List ℕ) → words ≡ move_first offset 0 words
unfolding move_first
move_none offset words = refl

pub move_more : (offset i : ℕ) (words so : List ℕ) (r : ℕ) → i < length words → r ≡ add_words (get_or so i 0) offset → so ≡ move_first offset i words
    → set so i r ≡ move_first offset (suc i) words
move_more offset i words so r h q e = rw (q, e) (move_next offset i words h)

pub moved_all : (list : ReadList) (offset k : ℕ) (words : List ℕ) → words ≡ move_first offset k list.word
    → move_first offset k list.word ≡ move_first offset (max list.count 1) list.word
    → record { word = words; gain = list.gain; count = list.count; weighted = list.weighted } ≡ shift_of list offset
unfolding shift_of
moved_all list offset k words m e = rw (m, e)
