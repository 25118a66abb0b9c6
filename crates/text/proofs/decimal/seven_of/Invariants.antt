use Rattle.std.proofs.Common.{length}
use Rattle.std.proofs.lemmas.Iterator.{YieldsList}
use Rattle.text.proofs.WordLaws.{parts_of, full_of}
use Rattle.text.proofs.ReadLaws.{Reads}
use Rattle.text.proofs.decimal.seven_of.Given as goal

abbrev pub invariant-loop-word : goal.invariant-loop-word
invariant-loop-word l =
    (goal.iterator-loop-word).can_next l.word-iterator ×
    (goal.iterator-loop-word).is_finite l.word-iterator ×
    YieldsList (goal.iterator-loop-word).next_gives (λ x. x.now) l.initial.word-iterator (full_of (parts_of l.line)) ×
    Reads (full_of (parts_of l.line)) (length l.yielded) l.values.items
