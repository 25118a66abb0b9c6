-- The laws of a line's words byte by byte, and when a line is none of seven numbers. Assumes nothing.
use mathlib.Core.Path.{◌≡◌, refl}
use mathlib.Core.Bool.{Bool, true, false, cond, ◌&&◌}
use mathlib.Core.List.{List, [], ◌∷◌, ◌++◌, append-nil}
use Prim.Native.Nat.{ℕ, ◌+◌, ◌-◌, ◌*◌, ◌≤◌}
use native.Mathlib.Omega.{arith}
use lib.Dec.{ltb, eqb}
use lib.ListN.{length, length-append}
use borrow.Author.Tests.{ltb-false, le-ltb, ne_eqb}
use Rattle.text.specs.Lines.{unless_empty}
use Rattle.std.specs.Prelude.{None}
use Rattle.std.specs.Char.{is_ascii_digit}
use Rattle.std.proofs.lemmas.Bool.Decides.{nat_tests}
use Rattle.std.specs.List.{list_all}
use Rattle.std.proofs.lemmas.List.Folds.{list_all-append}
use Rattle.text.specs.Decimal.{blank, words_from, value_from, value_of, digits, is_number, seven_of_words}
use Rattle.text.specs.Scan.{digit}
use Rattle.text.proofs.ReadLaws.{and_false}

-- ---- a word with a byte more

pub value_more : (v : ℕ) (w : List ℕ) (b : ℕ) → value_from v (w ++ (b ∷ [])) ≡ value_from v w * 10 + (b - 48)
value_more v [] b = refl
value_more v (d ∷ w) b = value_more (v * 10 + (d - 48)) w b

digit_is : (b : ℕ) → is_ascii_digit b ≡ digit b
digit_is b = grind (arith, nat_tests)

and_true : (t : Bool) → t && true ≡ t
and_true true = refl
and_true false = refl

pub digits_more : (w : List ℕ) (b : ℕ) → digits (w ++ (b ∷ [])) ≡ digits w && digit b
digits_more w b = rw (list_all-append is_ascii_digit w (b ∷ []), digit_is b, and_true (digit b))

-- ---- words

pub words_blank : (w : List ℕ) (b : ℕ) (bs : List ℕ) → blank b ≡ true → words_from w (b ∷ bs) ≡ unless_empty w ++ words_from [] bs
unfolding words_from
words_blank w b bs h = rw h

pub words_next : (w : List ℕ) (b : ℕ) (bs : List ℕ) → blank b ≡ false → words_from w (b ∷ bs) ≡ words_from (w ++ (b ∷ [])) bs
unfolding words_from
words_next w b bs h = rw h

-- ---- where a line is none of seven numbers

-- a word that is no number stays none
no_number_more : (w : List ℕ) (b : ℕ) → is_number w ≡ false → is_number (w ++ (b ∷ [])) ≡ false
no_number_more w b h = rw (digits_more w b, value_more 0 w b) (by_digits (digits w) h)
  where
    by_digits : (t : Bool) → t && ltb (value_of w) 0x1_0000_0000 ≡ false
        → (t && digit b) && ltb (value_of w * 10 + (b - 48)) 0x1_0000_0000 ≡ false
    by_digits true e =
        let large = ltb-false (value_of w) 0x1_0000_0000 e in
        rw (le-ltb (value_of w * 10 + (b - 48)) 0x1_0000_0000 (omega arith)) (and_false (digit b))
    by_digits false e = refl

one_no_number : (w : List ℕ) (ws : List (List ℕ)) → is_number w ≡ false → list_all is_number (unless_empty w ++ ws) ≡ false
unfolding unless_empty
one_no_number [] ws h = absurd (let z : ◌≡◌ {A = ℕ} 0 1 = cc in omega arith)
one_no_number (b ∷ w) ws h = rw h

some_no_number : (w : List ℕ) (bs : List ℕ) → is_number w ≡ false → list_all is_number (words_from w bs) ≡ false
unfolding words_from
some_no_number w [] h = rw (← append-nil (unless_empty w)) (one_no_number w [] h)
some_no_number w (b ∷ bs) h = by_blank (blank b) (some_no_number (w ++ (b ∷ [])) bs (no_number_more w b h))
  where
    by_blank : (t : Bool) → list_all is_number (words_from (w ++ (b ∷ [])) bs) ≡ false
        → list_all is_number (cond t (unless_empty w ++ words_from [] bs) (words_from (w ++ (b ∷ [])) bs)) ≡ false
    by_blank true e = one_no_number w (words_from [] bs) h
    by_blank false e = e

pub no_number_none : (ws : List (List ℕ)) (w bs : List ℕ) → is_number w ≡ false → seven_of_words (ws ++ words_from w bs) ≡ None
unfolding seven_of_words
no_number_none ws w bs h =
    rw (list_all-append is_number ws (words_from w bs), some_no_number w bs h, and_false (list_all is_number ws), and_false (eqb (length (ws ++ words_from w bs)) 7))

-- a word that has begun counts
begun_counts : (w : List ℕ) (ws : List (List ℕ)) → 1 ≤ length w → 1 ≤ length (unless_empty w ++ ws)
unfolding unless_empty
begun_counts [] ws h = absurd (omega arith)
begun_counts (b ∷ w) ws h = omega arith

word_counts : (w bs : List ℕ) → 1 ≤ length w → 1 ≤ length (words_from w bs)
unfolding words_from
word_counts w [] h = rw (← append-nil (unless_empty w)) (begun_counts w [] h)
word_counts w (b ∷ bs) h = by_blank (blank b) (word_counts (w ++ (b ∷ [])) bs (simp length-append (omega arith)))
  where
    by_blank : (t : Bool) → 1 ≤ length (words_from (w ++ (b ∷ [])) bs)
        → 1 ≤ length (cond t (unless_empty w ++ words_from [] bs) (words_from (w ++ (b ∷ [])) bs))
    by_blank true e = begun_counts w (words_from [] bs) h
    by_blank false e = e

pub eight_none : (ws : List (List ℕ)) (w bs : List ℕ) → 7 ≤ length ws → 1 ≤ length w → seven_of_words (ws ++ words_from w bs) ≡ None
unfolding seven_of_words
eight_none ws w bs full h =
    let some = word_counts w bs h in
    rw (ne_eqb (length (ws ++ words_from w bs)) 7 (λ e. omega (arith, length-append ws (words_from w bs))))
