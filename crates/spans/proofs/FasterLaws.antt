-- The laws of what `stretch` promises. Assumes nothing.
use mathlib.Core.Path.{◌≡◌, refl, sym, ◌∙◌, ap}
use mathlib.Core.List.{List}
use Prim.Native.Nat.{ℕ}
use native.Mathlib.Decide.{ℕ_discrete}
use lib.Ieee.{Float, of_bits}
use lib.ListN.{length}
use borrow.Author.Tests.{ne_eqb}
use Rattle.std.specs.Prelude.{Result, Ok, Err}
use Rattle.std.specs.Result.{IsErrAnd}
use Rattle.limits.specs.declared.answers.Valued.{Valued}
use Rattle.limits.specs.declared.refusal.Refusal.{Refusal}
use Rattle.limits.specs.Refusals.{line_of, number_of, valued_of}
use Rattle.limits.proofs.LineLaws.{some_number}
use Rattle.spans.specs.Asked.{Faster}
use Rattle.spans.specs.Refusal.{stretch_refusal}

module _ (factor n active lane f first count from asked step : ℕ) (stretch add : List Float) where
  -- a call that is turned down
  pub no_value : (r : Result (ℕ × Float) Refusal) (e : Refusal) → IsErrAnd r (λ x. x ≡ e)
      → number_of {A = Unit {0}} (Err e) ≡ stretch_refusal factor n active lane f first count from asked (length stretch) (length add)
      → Faster factor n active lane f first count from asked step stretch add (valued_of r)
  unfolding valued_of number_of of_bits
  no_value (Ok x) e handed is = absurd handed
  no_value (Err x) e handed is =
      record {
        number = ap line_of handed ∙ is;
        frames = rw (handed, ne_eqb (line_of e) 0 (some_number e));
        refused = λ h. refl;
        value = λ z. absurd (some_number e (sym (ap line_of handed) ∙ z));
      }

  -- the promise leaves nothing open: two calls with the same arguments answer alike
  pub same_value : {a b : Valued} → Faster factor n active lane f first count from asked step stretch add a
      → Faster factor n active lane f first count from asked step stretch add b → a ≡ b
  same_value {a} {b} one two = λ i. record { number = number i; frames = frames i; value = value (ℕ_discrete a.number 0) i }
    where
      number : a.number ≡ b.number
      number = one.number ∙ sym two.number

      frames : a.frames ≡ b.frames
      frames = one.frames ∙ rw number (sym two.frames)

      value : Dec (a.number ≡ 0) → a.value ≡ b.value
      value (yes e) = one.value e ∙ sym (two.value (sym number ∙ e))
      value (no ne) = one.refused ne ∙ sym (two.refused (λ e. ne (number ∙ e)))
