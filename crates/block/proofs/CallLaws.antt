-- The laws of what a block run promises: turned down, and done. Assumes nothing.
use mathlib.Core.Path.{◌≡◌, refl, sym, ◌∙◌, ap}
use Prim.Native.Nat.{ℕ}
use native.Mathlib.Omega.{arith}
use borrow.Author.Tests.{ne_eqb, eq-eqb}
use Rattle.std.specs.Prelude.{Result, Ok, Err}
use Rattle.std.specs.Result.{IsErrAnd}
use Rattle.limits.specs.declared.refusal.Refusal.{Refusal}
use Rattle.limits.specs.Refusals.{line_of, number_of, answer_of}
use Rattle.limits.proofs.LineLaws.{some_line}
use Rattle.shaper.specs.declared.settings.Range.{Range}
use Rattle.render.specs.declared.state.BlockSettings.{BlockSettings}
use Rattle.render.specs.Lane.{Lent}
use Rattle.share.specs.Share.{Buffers}
use Rattle.share.specs.Promises.{Shared}
use Rattle.block.specs.Refusal.{block_refusal}
use Rattle.block.specs.Call.{Meets, called, call_numbers, read_lengths, write_lengths, refusal_of}
use Rattle.block.proofs.SharedLaws.{sizes_lengths}

module _ (b : BlockSettings) (r : Range) (active coefs numbers : ℕ) (l : Lent) (w : Buffers) where
  abbrev number : ℕ
  number = block_refusal (call_numbers b r active) (read_lengths coefs numbers l) (write_lengths w)

  pub meets_refused : (answer : ℕ) → answer ≡ number → (answer ≡ 0 → ⊥)
      → Meets (called b r active coefs numbers l w w (record { number = answer; frames = 0 }))
  unfolding refusal_of
  meets_refused answer e bad =
      record {
        number = e;
        frames = rw (ne_eqb number 0 (λ z. bad (e ∙ z)));
        refused = λ h. refl;
        lanes = λ z. absurd (bad (e ∙ z));
        sizes = refl;
      }

  pub meets_turned_down : (outcome : Result ℕ Refusal) (e : Refusal) → IsErrAnd outcome (λ x. x ≡ e)
      → number_of {A = Unit {0}} (Err e) ≡ number → Meets (called b r active coefs numbers l w w (answer_of outcome))
  unfolding number_of answer_of
  meets_turned_down (Ok _) e h is = absurd h
  meets_turned_down (Err x) e h is = meets_refused (line_of x) (ap line_of h ∙ is) (λ z. omega (arith, some_line x))

  pub meets_shared : {w' : Buffers} → number ≡ 0 → Shared b r l 0 active w w'
      → Meets (called b r active coefs numbers l w w' (answer_of (Ok r.count)))
  unfolding refusal_of answer_of
  meets_shared ok did =
      record {
        number = sym ok;
        frames = rw (eq-eqb number 0 ok);
        refused = λ bad. absurd (bad ok);
        lanes = λ z. did.lanes;
        sizes = sizes_lengths did.sizes;
      }
