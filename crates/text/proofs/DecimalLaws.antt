-- A scan of all bytes of a line finds the line's seven numbers. Assumes nothing.
use mathlib.Core.Path.{◌≡◌, refl, ap, ◌∙◌}
use mathlib.Core.Bool.{Bool, true, false, cond, ◌&&◌}
use mathlib.Core.List.{List, [], ◌∷◌, ◌++◌, append_assoc, append-nil, map, map-append}
use Prim.Native.Nat.{ℕ, zero, suc, ◌+◌, ◌-◌, ◌*◌, ◌≤◌, ◌<◌}
use native.Mathlib.Omega.{arith}
use lib.Dec.{ltb, eqb}
use lib.ListN.{length, get_or, set, replicate, length-append}
use lib.Seq.{set_at, get_or_at}
use borrow.Author.Tests.{ltb-true, ltb-false, lt-ltb, eqb-true}
use Rattle.std.specs.Prelude.{if◌then◌else◌, Some, None}
use Rattle.std.specs.List.{list_all}
use Rattle.std.proofs.lemmas.List.{length-map}
use Rattle.std.proofs.lemmas.List.Folds.{list_all-append}
use Rattle.text.specs.Lines.{unless_empty}
use Rattle.text.specs.Decimal.{blank, words_from, value_of, digits, is_number, seven_of_words, seven_of}
use Rattle.text.specs.Scan.{Scan, digit, seven_good, no_seven, seven_as, start, failed, ended, with_number, scan_byte, scan_bytes, found, at_end}
use Rattle.text.proofs.ReadLaws.{and_false}
use Rattle.text.proofs.CountLaws.{value_more, digits_more, words_blank, words_next, no_number_none, eight_none}
use Rattle.text.proofs.ScanLaws.{blank_ends, no_digit_fails, eighth_fails, digit_counts}

-- ---- a scan that has failed

failed_stays : (s : Scan) (b : ℕ) → s.good ≡ false → (scan_byte s b).good ≡ false
unfolding scan_byte with_number
failed_stays s b h = by_tests (blank b) (digit b && ltb s.done 7) (ltb (get_or s.values s.done 0 * 10 + (b - 48)) 0x1_0000_0000)
  where
    by_tests : (t u p : Bool)
        → (cond t (ended s)
        (cond u
        (cond p
        (record { good = s.good; done = s.done; begun = 1; values = set s.values s.done (get_or s.values s.done 0 * 10 + (b - 48)) })
        (failed s))
        (failed s))).good ≡ false
    by_tests true u p = h
    by_tests false true true = h
    by_tests false true false = refl
    by_tests false false p = refl

-- a scan that has failed finds nothing
pub failed_none : (s : Scan) (bs : List ℕ) → s.good ≡ false → at_end (scan_bytes s bs) ≡ no_seven
unfolding scan_bytes found
failed_none s [] h = rw h
failed_none s (b ∷ bs) h = failed_none (scan_byte s b) bs (failed_stays s b h)

-- ---- what a scan stands for

-- the numbers that are left of seven: one that stands, and zeros
abbrev left : ℕ → ℕ → List ℕ
left zero v = []
left (suc n) v = v ∷ replicate n 0

left_zeros : (n : ℕ) → left n 0 ≡ replicate n 0
left_zeros zero = refl
left_zeros (suc n) = refl

-- the number that stands, and the zeros after it
left_next : (n v : ℕ) → n < 7 → left (7 - n) v ≡ v ∷ left (7 - (n + 1)) 0
left_next n v h =
    let here : 7 - n ≡ suc (6 - n) = omega arith in
    let after : 7 - (n + 1) ≡ 6 - n = omega arith in
    rw (here, after, left_zeros (6 - n))

-- a scan that has not failed, after the words ws and the bytes w of one more
record Stands (s : Scan) (ws : List (List ℕ)) (w : List ℕ) : Type 0 where
  good : s.good ≡ true
  numbers : list_all is_number ws ≡ true
  digits_only : digits w ≡ true
  below : value_of w < 0x1_0000_0000
  done : s.done ≡ length ws
  begun : s.begun ≡ length (unless_empty w)
  room : length ws + length (unless_empty w) ≤ 7
  values : s.values ≡ map value_of ws ++ left (7 - length ws) (value_of w)

stands_first : Stands start [] []
unfolding unless_empty
stands_first = record { good = refl; numbers = refl; digits_only = refl; below = omega arith; done = refl; begun = refl; room = omega arith; values = refl }

-- ---- a blank, or the line's end

stands_ended : (s : Scan) (ws : List (List ℕ)) (w : List ℕ) → Stands s ws w → Stands (ended s) (ws ++ unless_empty w) []
unfolding unless_empty
stands_ended s ws [] k =
    rw (append-nil ws)
    (record {
      good = k.good;
      numbers = k.numbers;
      digits_only = refl;
      below = omega arith;
      done = omega (arith, k.done, k.begun);
      begun = refl;
      room = k.room;
      values = k.values;
    })
stands_ended s ws (b ∷ w) k =
    let one : length (ws ++ ((b ∷ w) ∷ [])) ≡ length ws + 1 = length-append ws ((b ∷ w) ∷ []) in
    record {
      good = k.good;
      numbers = rw (list_all-append is_number ws ((b ∷ w) ∷ []), k.numbers, k.digits_only, lt-ltb (value_of (b ∷ w)) 0x1_0000_0000 k.below);
      digits_only = refl;
      below = omega arith;
      done = omega (arith, k.done, k.begun);
      begun = refl;
      room = omega (arith, k.room);
      values = rw (k.values, map-append value_of ws ((b ∷ w) ∷ []), append_assoc, one, left_next (length ws) (value_of (b ∷ w)) (omega (arith, k.room)));
    }

-- ---- a digit

one_begun : (w : List ℕ) (b : ℕ) → 1 ≡ length (unless_empty (w ++ (b ∷ [])))
unfolding unless_empty
one_begun [] b = refl
one_begun (d ∷ w) b = refl

module _ (s : Scan) (ws : List (List ℕ)) (w : List ℕ) (b : ℕ) (k : Stands s ws w) (free : s.done < 7) where
  number_stands : get_or s.values s.done 0 ≡ value_of w
  number_stands =
      rw (k.values, k.done, left_next (length ws) (value_of w) (omega (arith, k.done)))
      (get_or_at (map value_of ws) (value_of w) (left (7 - (length ws + 1)) 0) 0 (length ws) (length-map ws value_of))

  stands_digit : digit b ≡ true → value_of w * 10 + (b - 48) < 0x1_0000_0000
      → Stands (record { good = s.good; done = s.done; begun = 1; values = set s.values s.done (value_of w * 10 + (b - 48)) }) ws (w ++ (b ∷ []))
  stands_digit d small =
      let next : ℕ = value_of w * 10 + (b - 48) in
      let lower : length ws < 7 = omega (arith, k.done) in
      record {
        good = k.good;
        numbers = k.numbers;
        digits_only = rw (digits_more w b, k.digits_only, d);
        below = rw (value_more 0 w b) small;
        done = k.done;
        begun = one_begun w b;
        room = omega (arith, one_begun w b);
        values =
            rw (k.values, k.done, left_next (length ws) (value_of w) lower, value_more 0 w b, left_next (length ws) next lower)
            (set_at (map value_of ws) (value_of w) (left (7 - (length ws + 1)) 0) next (length ws) (length-map ws value_of));
      }

-- ---- all bytes

-- at the line's end
ended_found : (s : Scan) (ws : List (List ℕ)) → Stands s ws [] → found s ≡ seven_as (seven_of_words ws)
unfolding found seven_of_words seven_as
ended_found s ws k = rw (k.good, k.numbers, k.done) (by_count (eqb (length ws) 7) refl)
  where
    by_count : (t : Bool) → eqb (length ws) 7 ≡ t → cond t (seven_good s.values) no_seven ≡ seven_as (if t && true then Some (map value_of ws) else None)
    by_count true h =
        let seven : length ws ≡ 7 = eqb-true (length ws) 7 h in
        rw (k.values, seven, append-nil (map value_of ws))
    by_count false h = refl

-- one byte; what follows is the induction's
module _ (s : Scan) (ws : List (List ℕ)) (w : List ℕ) (b : ℕ) (bs : List ℕ) (k : Stands s ws w)
    (after : (r : Scan) (vs : List (List ℕ)) (v : List ℕ) → Stands r vs v → at_end (scan_bytes r bs) ≡ seven_as (seven_of_words (vs ++ words_from v bs))) where
  abbrev Goal : Type 0
  Goal = at_end (scan_bytes (scan_byte s b) bs) ≡ seven_as (seven_of_words (ws ++ words_from w (b ∷ bs)))

  by_blank : blank b ≡ true → Goal
  by_blank h =
      rw (← blank_ends s b h, words_blank w b bs h)
      (after (ended s) (ws ++ unless_empty w) [] (stands_ended s ws w k) ∙ ap (λ words. seven_as (seven_of_words words)) (append_assoc ws (unless_empty w) (words_from [] bs)))

  by_failure : failed s ≡ scan_byte s b → blank b ≡ false → seven_of_words (ws ++ words_from (w ++ (b ∷ [])) bs) ≡ None → Goal
  unfolding seven_as
  by_failure e h none = rw (← e, words_next w b bs h, none) (failed_none (failed s) bs refl)

  by_size : blank b ≡ false → digit b ≡ true → s.done < 7 → (t : Bool) → ltb (value_of w * 10 + (b - 48)) 0x1_0000_0000 ≡ t → Goal
  unfolding with_number
  by_size h d free true e =
      rw (← digit_counts s b h d free, number_stands s ws w b k free, e, words_next w b bs h)
      (after _ ws (w ++ (b ∷ [])) (stands_digit s ws w b k free d (ltb-true _ 0x1_0000_0000 e)))
  by_size h d free false e =
      let fails : failed s ≡ with_number s (get_or s.values s.done 0 * 10 + (b - 48)) = rw (number_stands s ws w b k free, e) in
      by_failure (fails ∙ digit_counts s b h d free) h
      (no_number_none ws (w ++ (b ∷ [])) bs (rw (value_more 0 w b, e) (and_false (digits (w ++ (b ∷ []))))))

  by_tests : (t u p : Bool) → blank b ≡ t → digit b ≡ u → ltb s.done 7 ≡ p → Goal
  by_tests true u p h d f = by_blank h
  by_tests false true true h d f = by_size h d (ltb-true s.done 7 f) (ltb (value_of w * 10 + (b - 48)) 0x1_0000_0000) refl
  by_tests false true false h d f =
      let full = ltb-false s.done 7 f in
      by_failure (eighth_fails s b h d full) h
      (eight_none ws (w ++ (b ∷ [])) bs (omega (arith, k.done)) (simp length-append (omega arith)))
  by_tests false false p h d f =
      by_failure (no_digit_fails s b h d) h (no_number_none ws (w ++ (b ∷ [])) bs (rw (digits_more w b, k.digits_only, d)))

from_here : (s : Scan) (ws : List (List ℕ)) (w bs : List ℕ) → Stands s ws w → at_end (scan_bytes s bs) ≡ seven_as (seven_of_words (ws ++ words_from w bs))
unfolding scan_bytes words_from
from_here s ws w [] k = ended_found (ended s) (ws ++ unless_empty w) (stands_ended s ws w k)
from_here s ws w (b ∷ bs) k =
    by_tests s ws w b bs k (λ r vs v l. from_here r vs v bs l) (blank b) (digit b) (ltb s.done 7) refl refl refl

pub seven_found : (line : List ℕ) → at_end (scan_bytes start line) ≡ seven_as (seven_of line)
seven_found line = from_here start [] [] line stands_first
