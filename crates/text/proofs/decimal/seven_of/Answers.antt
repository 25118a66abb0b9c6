-- `text::decimal::seven_of` meets its contract: the words so far, and what they tell of the line.
use Rattle.std.proofs.Common.{rules, of_calls, tests, arith, sym, ap, ◌∙◌, Bor, List, ℕ, length-append}
use Rattle.std.proofs.lemmas.Bool.Decides.{nat_tests}
use Rattle.std.proofs.lemmas.Grind.{common_steps}
use Rattle.std.proofs.lemmas.Iterator.Consumers.{YieldsList-at, YieldsList-from_filter, YieldsList-turn, YieldsList-end}
use Rattle.std.proofs.lemmas.Iterator.Splits.{YieldsList-from_slice_split}
use Rattle.text.specs.Decimal.{blank, seven_of_words}
use Rattle.text.proofs.WordLaws.{words_found}
use Rattle.text.proofs.ReadLaws.{reads_none, reads_more, no_number, eighth, seven_read}
use Rattle.text.proofs.decimal.seven_of.Goals as goal

pub loop-word-init : goal.loop-word-init
loop-word-init c = (
  search of_calls,
  search of_calls,
  YieldsList-at c.into_iter-word-iterator.ensures.into_iter_gives
      (YieldsList-from_filter {s = c.filter-word-items.result} _ _
      (YieldsList-at c.filter-word-items.ensures.source
      (YieldsList-from_slice_split _ blank c.args.line.now c.split.ensures.rest c.split.ensures.done c.split.ensures.closure
      (λ x b q k. search (rules, tests))))
      c.filter-word-items.ensures.closure (λ x b q k. search (rules, tests))),
  rw c.new-values.ensures (reads_none _),
)

pub returns-in_err-number : goal.returns-in_err-number
returns-in_err-number c =
    let turn = YieldsList-turn c.loop-word.invariant.2 c.loop-word.yielded _ c.loop-word.yielded_by _ c.next.new.self c.in-Some.word c.in-Some.is c.next.ensures.steps in
    let none = no_number _ _ _ c.in-Some.word.now c.loop-word.invariant.3 turn.0 turn.1 (sym c.number.ensures ∙ c.in_err-number.was) in
    c.from_residual.ensures ∙ sym none ∙ ap seven_of_words (words_found c.args.line.now)

pub loop-word-preserved : goal.loop-word-preserved
loop-word-preserved c =
    let turn = YieldsList-turn c.loop-word.invariant.2 c.loop-word.yielded _ c.loop-word.yielded_by _ c.next.new.self c.in-Some.word c.in-Some.is c.next.ensures.steps in
    let more = reads_more _ _ _ c.in-Some.word.now c.loop-word.invariant.3 turn.0 turn.1 _ (sym c.number.ensures ∙ c.in_ok-number.was) in
    (search of_calls, search of_calls, c.loop-word.invariant.2, grind (arith, common_steps, length-append {A = Bor (List ℕ)}))

pub returns-in_err-ok : goal.returns-in_err-ok
returns-in_err-ok c =
    let turn = YieldsList-turn c.loop-word.invariant.2 c.loop-word.yielded _ c.loop-word.yielded_by _ c.next.new.self c.in-Some.word c.in-Some.is c.next.ensures.steps in
    let none = eighth _ _ _ c.in-Some.word.now c.loop-word.invariant.3 turn.0 turn.1 (grind (arith, common_steps)) in
    c.from_residual-in_err-ok.ensures ∙ sym none ∙ ap seven_of_words (words_found c.args.line.now)

pub returns : goal.returns
returns c =
    let end = YieldsList-end c.loop-word.invariant.2 c.loop-word.yielded _ c.loop-word.yielded_by _ c.next.new.self c.in-None.is c.next.ensures.steps in
    let found = seven_read c.args.line.now _ _ end.1 c.loop-word.invariant.3 in
    grind (arith, common_steps, nat_tests)
