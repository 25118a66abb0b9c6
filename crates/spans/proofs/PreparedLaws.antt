-- The laws of what `prepare` promises. Assumes nothing.
use mathlib.Core.Path.{◌≡◌, refl, sym, ◌∙◌, ap}
use Prim.Native.Nat.{ℕ, ◌<◌}
use native.Mathlib.Decide.{ℕ_discrete}
use mathlib.Core.List.{List}
use lib.ListN.{length, take}
use lib.Ieee.{Float, nan}
use borrow.Author.Tests.{ne_eqb}
use Rattle.std.specs.Prelude.{Result, Ok, Err}
use Rattle.std.specs.Result.{IsErrAnd}
use Rattle.grid.specs.Lanes.{Each}
use Rattle.grid.proofs.CellLaws.{same_columns}
use Rattle.grid.proofs.EachLaws.{each_unique}
use Rattle.limits.specs.declared.answers.Answer.{Answer}
use Rattle.limits.specs.declared.refusal.Refusal.{Refusal}
use Rattle.limits.specs.Refusals.{line_of, number_of, answer_of}
use Rattle.limits.specs.Lengths.{spans_of, curve_length}
use Rattle.limits.proofs.LineLaws.{some_number}
use Rattle.curve.specs.Curve.{steepest_of}
use Rattle.controls.specs.Controls.{ControlBuffers, controls_of}
use Rattle.spans.specs.Refusal.{prepare_refusal}
use Rattle.spans.specs.Prepared.{Spans, lengths_of, View, views, filled, Prepared}
use Rattle.spans.proofs.RefusalLaws.{accepted}

module _ (mode0 mode1 factor n active f rate : ℕ) (b : ControlBuffers) (curve : List Float) (w : Spans) where
  -- a call that is turned down
  pub turned_down_lem : (r : Result ℕ Refusal) (e : Refusal) → IsErrAnd r (λ x. x ≡ e)
      → number_of {A = Unit {0}} (Err e) ≡ prepare_refusal mode0 mode1 factor n active f rate (lengths_of b curve w)
      → Prepared mode0 mode1 factor n active f rate b curve w w (answer_of r)
  unfolding answer_of number_of
  turned_down_lem (Ok x) e handed is = absurd handed
  turned_down_lem (Err x) e handed is =
      record {
        number = ap line_of handed ∙ is;
        frames = rw (handed, ne_eqb (line_of e) 0 (some_number e));
        refused = λ h. refl;
        lanes = λ z. absurd (some_number e (sym (ap line_of handed) ∙ z));
        inner = refl;
        stretch = refl;
        add = refl;
      }

  -- a call whose lanes are prepared, with the sub-blocks and the curve's steepest segment worked out before
  pub done : {w' : Spans} {rows : ℕ} {steepest : Float} → prepare_refusal mode0 mode1 factor n active f rate (lengths_of b curve w) ≡ 0
      → rows ≡ spans_of f → steepest ≡ steepest_of (take curve_length curve)
      → Each n 0 active (λ l. filled mode0 mode1 factor f rate steepest (controls_of n l f b) rows) (views n w) (views n w')
      → length w'.inner ≡ length w.inner → length w'.stretch ≡ length w.stretch → length w'.add ≡ length w.add
      → Prepared mode0 mode1 factor n active f rate b curve w w' (record { number = 0; frames = f })
  done ok counted searched did inner stretch add =
      record {
        number = sym ok;
        frames = refl;
        refused = λ h. absurd (h refl);
        lanes = λ e. rw (counted, searched) at did;
        inner = inner;
        stretch = stretch;
        add = add;
      }

  -- the promise leaves no cell open: two calls with the same arguments and buffers end alike
  module _ {w' w'' : Spans} {a a' : Answer} (one : Prepared mode0 mode1 factor n active f rate b curve w w' a)
      (two : Prepared mode0 mode1 factor n active f rate b curve w w'' a') where
    same_number : a.number ≡ a'.number
    same_number = one.number ∙ sym two.number

    pub same_answer : a ≡ a'
    same_answer =
        let frames : a.frames ≡ a'.frames = one.frames ∙ rw same_number (sym two.frames) in
        λ i. record { number = same_number i; frames = frames i }

    pub same_spans : w' ≡ w''
    same_spans = go (ℕ_discrete a.number 0)
      where
        go : Dec (a.number ≡ 0) → w' ≡ w''
        go (no ne) = one.refused ne ∙ sym (two.refused (λ e. ne (same_number ∙ e)))
        go (yes e) =
            let some : 0 < n = (accepted mode0 mode1 factor n active f rate (lengths_of b curve w) (sym one.number ∙ e)).some in
            let same : (l : ℕ) → l < n → views n w' l ≡ views n w'' l = each_unique (one.lanes e) (two.lanes (sym same_number ∙ e)) in
            let inners = same_columns nan n w'.inner w''.inner some (one.inner ∙ sym two.inner) (λ l h. ap (λ (v : View). v.inner) (same l h)) in
            let stretches = same_columns nan n w'.stretch w''.stretch some (one.stretch ∙ sym two.stretch) (λ l h. ap (λ (v : View). v.stretch) (same l h)) in
            let adds = same_columns nan n w'.add w''.add some (one.add ∙ sym two.add) (λ l h. ap (λ (v : View). v.add) (same l h)) in
            λ i. record { inner = inners i; stretch = stretches i; add = adds i }
