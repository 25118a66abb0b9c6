-- Reading a line's words one by one finds the line's seven numbers. Assumes nothing.
use mathlib.Core.Path.{◌≡◌, refl, ap, ◌∙◌}
use mathlib.Core.Bool.{Bool, true, false, ◌&&◌}
use mathlib.Core.List.{List, [], ◌∷◌, ◌++◌, map, map-append}
use Prim.Native.Nat.{ℕ, ◌+◌, ◌<◌}
use native.Mathlib.Numerals.{add-one}
use native.Mathlib.Omega.{arith}
use lib.ListN.{length, take, get_or}
use lib.Seq.{take-suc}
use borrow.Author.Tests.{ne_eqb}
use Rattle.std.specs.Prelude.{if◌then◌else◌, ◌==◌, Some, None}
use Rattle.std.specs.List.{list_all}
use Rattle.std.proofs.lemmas.List.{take_all, length-map, length-take-le}
use Rattle.std.proofs.lemmas.List.Folds.{list_all_at, list_all_more}
use Rattle.text.specs.Decimal.{value_of, is_number, number_of, seven_of_words, seven_of}
use Rattle.text.proofs.WordLaws.{parts_of, full_of, words_found}

-- `found` are the numbers of the first k words
pub record Reads (words : List (List ℕ)) (k : ℕ) (found : List ℕ) : Type 0 where
  pub numbers : list_all is_number (take k words) ≡ true
  pub values : found ≡ map value_of (take k words)

-- a number is its word's value
some_number : (word : List ℕ) (n : ℕ) → number_of word ≡ Some n → (is_number word ≡ true) × (n ≡ value_of word)
unfolding number_of
some_number word n = by_test (is_number word)
  where
    by_test : (t : Bool) → (if t then Some (value_of word) else None) ≡ Some n → (t ≡ true) × (n ≡ value_of word)
    by_test true e = (refl, cc)
    by_test false e = absurd cc

none_number : (word : List ℕ) → number_of word ≡ None → is_number word ≡ false
unfolding number_of
none_number word = by_test (is_number word)
  where
    by_test : (t : Bool) → (if t then Some (value_of word) else None) ≡ None → t ≡ false
    by_test true e = absurd cc
    by_test false e = refl

pub and_false : (t : Bool) → (t && false) ≡ false
and_false true = refl
and_false false = refl

module _ (words : List (List ℕ)) where
  pub reads_none : Reads words 0 []
  reads_none = record { numbers = refl; values = refl }

  module _ (k : ℕ) (found : List ℕ) (word : List ℕ) (reads : Reads words k found) (more : k < length words) (here : word ≡ get_or words k word) where
    pub reads_more : (n : ℕ) → number_of word ≡ Some n → Reads words (k + 1) (found ++ (n ∷ []))
    reads_more n e =
        let number = some_number word n e in
        record {
          numbers = rw (list_all_more is_number words k word more, reads.numbers, ← here) (number.0);
          values = rw (add-one, take-suc words k word more, ← here, map-append value_of (take k words) (word ∷ []), reads.values, number.1);
        }

    pub no_number : number_of word ≡ None → seven_of_words words ≡ None
    unfolding seven_of_words
    no_number e =
        rw (list_all_at is_number words k word more (rw (← here) (none_number word e)), and_false (length words == 7))

    pub eighth : length found ≡ 7 → seven_of_words words ≡ None
    unfolding seven_of_words
    eighth e =
        let seven : k ≡ 7 = rw (reads.values, length-map (take k words) value_of, length-take-le k words (omega arith)) at e in
        rw (ne_eqb (length words) 7 (λ h. omega arith))

  -- the numbers of all words
  all_read : (found : List ℕ) (k : ℕ) → k ≡ length words → Reads words k found → (if length found == 7 then Some found else None) ≡ seven_of_words words
  unfolding seven_of_words
  all_read found k e reads =
      let whole : take k words ≡ words = take_all k words (omega arith) in
      let numbers = rw whole at reads.numbers in
      let values = rw whole at reads.values in
      rw (values, length-map words value_of, numbers) (by_count (length words == 7))
    where
      by_count : (t : Bool) → (if t then Some (map value_of words) else None) ≡ (if t && true then Some (map value_of words) else None)
      by_count true = refl
      by_count false = refl

-- a reader that has the numbers of all words that std's `split` and `filter` give has the line's seven, or there are not so many
pub seven_read : (line found : List ℕ) (k : ℕ) → k ≡ length (full_of (parts_of line)) → Reads (full_of (parts_of line)) k found
    → (if length found == 7 then Some found else None) ≡ seven_of line
seven_read line found k e reads = all_read (full_of (parts_of line)) found k e reads ∙ ap seven_of_words (words_found line)
