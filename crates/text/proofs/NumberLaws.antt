-- A word's number by std's `parse`. Assumes nothing.
use mathlib.Core.Path.{◌≡◌}
use mathlib.Core.Bool.{true, false}
use mathlib.Core.List.{List}
use Prim.Native.Nat.{ℕ, ◌<◌, ◌≤◌, ◌^◌}
use native.Mathlib.Omega.{arith}
use lib.ListN.{length}
use borrow.Author.Rules.{rules}
use borrow.Author.Tests.{lt-ltb, le-ltb}
use Rattle.std.specs.Prelude.{Result, Ok, Err, None}
use Rattle.std.specs.Result.{result_ok}
use Rattle.std.specs.Str.{IsUtf8}
use Rattle.std.specs.Str.Parse.{ParsesUnsigned}
use Rattle.std.proofs.lemmas.Str.{IsUtf8-from_ascii}
use Rattle.std.proofs.lemmas.Str.Parse.{IsNumeralModel, numerals_by_fold, parse_digits}
use Rattle.std.proofs.lemmas.Fmt.{IsAscii-from_digits}
use Rattle.text.specs.Decimal.{value_from, value_of, digits, number_of}

-- `digits` and `value_of` are std's numerals
numeral : IsNumeralModel (λ word. digits word ≡ true) value_of
numeral = numerals_by_fold _ (search rules) value_from (search rules)

pub digits_utf8 : (word : List ℕ) → digits word ≡ true → IsUtf8 word
digits_utf8 word h = IsUtf8-from_ascii word (IsAscii-from_digits word (numeral.to word h))

pub number_none : (word : List ℕ) → digits word ≡ false → number_of word ≡ None
unfolding number_of
number_none word h = rw h

pub number_parsed : {E : Type 0} (word : List ℕ) (r : Result ℕ E) → ParsesUnsigned 32 10 word r → digits word ≡ true → 0 < length word
    → result_ok r ≡ number_of word
unfolding number_of
number_parsed {E} word (Ok n) h d some =
    let e = parse_digits numeral {E = E} 32 word (Ok n) h d in rw (e.1, d, lt-ltb (value_of word) (2 ^ 32) e.0.1)
number_parsed {E} word (Err x) h d some =
    let e = parse_digits numeral {E = E} 32 word (Err x) h d in
    let large : 2 ^ 32 ≤ value_of word = grind arith in
    rw (d, le-ltb (value_of word) (2 ^ 32) large)
