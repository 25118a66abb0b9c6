-- What is answered, by the table's length. Assumes nothing.
use mathlib.Core.Path.{◌≡◌, refl}
use mathlib.Core.List.{List}
use Prim.Native.Nat.{◌<◌}
use lib.ListN.{length}
use lib.Ieee.{Float, of_bits}
use borrow.Author.Tests.{lt-ltb, le-ltb}
use Rattle.std.specs.Prelude.{Result, Ok, Err, IsErrAnd}
use Rattle.std.proofs.lemmas.Result.{err_from_is_err_and}
use Rattle.floats.specs.Steps.{by_taken, by_left}
use Rattle.limits.specs.declared.refusal.Refusal.{Refusal}
use Rattle.limits.specs.Refusals.{value_answer, line_of}
use Rattle.curve.specs.Answers.{answered}

too_short : (table : List Float) (v : Float) → length table < 1025 → value_answer (Err Refusal.ShortRead) ≡ answered table v
unfolding answered value_answer line_of of_bits
too_short table v h = by_taken _ _ _ _ (lt-ltb (length table) 1025 h) refl

pub refuses : (table : List Float) (v : Float) (r : Result Float Refusal) (e : Refusal) → (e ≡ Refusal.ShortRead) × (length table < 1025) → IsErrAnd r (λ d. d ≡ e) → value_answer r ≡ answered table v
refuses table v r e h i =
    let p = err_from_is_err_and r i in
    rw (p.1, p.2, h.0) (too_short table v h.1)

pub accepts : (table : List Float) (w v : Float) → w ≡ v → 1024 < length table → value_answer (Ok w) ≡ answered table v
unfolding answered value_answer
accepts table w v e h = by_left _ _ _ _ (le-ltb (length table) 1025 h) (rw e)
