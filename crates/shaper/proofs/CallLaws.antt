-- The laws of what the calls promise, and that the promises leave no cell open. Assumes nothing.
use mathlib.Core.Path.{◌≡◌, refl, sym, ◌∙◌, ap}
use mathlib.Core.List.{List}
use Prim.Native.Nat.{ℕ, ◌+◌, ◌/◌, ◌%◌}
use native.Mathlib.Decide.{ℕ_discrete}
use lib.ListN.{length}
use lib.Ieee.{Float, nan, of_bits}
use native.Mathlib.Omega.{arith}
use borrow.Author.Tests.{ne_eqb}
use Rattle.std.specs.Prelude.{Result, Ok, Err}
use Rattle.std.specs.Result.{IsErrAnd}
use Rattle.grid.proofs.CellLaws.{same_columns}
use Rattle.grid.proofs.EachLaws.{each_unique}
use Rattle.limits.specs.declared.answers.Valued.{Valued}
use Rattle.limits.specs.declared.refusal.Refusal.{Refusal}
use Rattle.limits.specs.Refusals.{line_of, number_of, valued_of}
use Rattle.limits.proofs.LineLaws.{some_line}
use Rattle.reads.specs.declared.lists.LaneReads.{LaneReads}
use Rattle.controls.specs.Controls.{ControlBuffers, control_lengths}
use Rattle.shaper.specs.declared.settings.Settings.{Settings}
use Rattle.shaper.specs.declared.settings.Range.{Range}
use Rattle.shaper.specs.declared.single.ReadsAnswer.{ReadsAnswer}
use Rattle.shaper.specs.Refusal.{reads_refusal, sample_refusal}
use Rattle.shaper.specs.ReadsCall.{reads_from, reads_answer, ReadsCall}
use Rattle.shaper.specs.SampleCall.{sample_from, SampleCall}
use Rattle.shaper.specs.Taken.{ReadsTaken, SampleTaken}
use Rattle.shaper.proofs.RefusalLaws.{reads_accepted, sample_accepted}

-- ---- a read list

module _ (s : Settings) (rate active lane : ℕ) (r : Range) (frame word step : ℕ) (l : ControlBuffers) (curve inner fm last : List Float) where
  abbrev reads_number : ℕ
  reads_number = reads_refusal s rate active lane r frame (control_lengths l) (length curve) (length inner) (length fm) (length last)

  pub reads_turned_down : (outcome : Result (ℕ × LaneReads) Refusal) (e : Refusal) → IsErrAnd outcome (λ x. x ≡ e)
      → number_of {A = Unit {0}} (Err e) ≡ reads_number
      → ReadsCall s rate active lane r frame word step l curve inner fm fm last (reads_answer outcome)
  unfolding number_of reads_answer
  reads_turned_down (Ok _) e h number = absurd h
  reads_turned_down (Err x) e h number =
      let ne : line_of x ≡ 0 → ⊥ = λ z. omega (arith, some_line x) in
      record {
        number = ap line_of h ∙ number;
        frames = rw (ne_eqb (line_of x) 0 ne);
        refused = λ _. (refl, refl);
        reads = λ z. absurd (ne z);
        carry = λ z. absurd (ne z);
        size = refl;
      }

  pub reads_done : {fm' : List Float} {reads : LaneReads} → reads_number ≡ 0
      → ReadsTaken s lane (reads_from s rate lane (r.first + frame / s.factor) (frame % s.factor) word step l curve inner fm last) fm fm' reads → length fm' ≡ length fm
      → ReadsCall s rate active lane r frame word step l curve inner fm fm' last (reads_answer (Ok (r.count, reads)))
  unfolding reads_answer
  reads_done e did size =
      record {
        number = sym e;
        frames = refl;
        refused = λ h. absurd (h refl);
        reads = λ z. did.list;
        carry = λ z. did.carry;
        size = size;
      }

  -- two calls with the same arguments and buffers end alike
  module _ {fm' fm'' : List Float} {a b : ReadsAnswer} (one : ReadsCall s rate active lane r frame word step l curve inner fm fm' last a)
      (two : ReadsCall s rate active lane r frame word step l curve inner fm fm'' last b) where
    same_number : a.number ≡ b.number
    same_number = one.number ∙ sym two.number

    same_list : a.reads ≡ b.reads
    same_list = go (ℕ_discrete a.number 0)
      where
        go : Dec (a.number ≡ 0) → a.reads ≡ b.reads
        go (no ne) = (one.refused ne).0 ∙ sym (two.refused (λ e. ne (same_number ∙ e))).0
        go (yes e) = one.reads e ∙ sym (two.reads (sym same_number ∙ e))

    pub same_reads : a ≡ b
    same_reads =
        let frames : a.frames ≡ b.frames = one.frames ∙ rw same_number (sym two.frames) in
        λ i. record { number = same_number i; frames = frames i; reads = same_list i }

    pub same_carry : fm' ≡ fm''
    same_carry = go (ℕ_discrete a.number 0)
      where
        go : Dec (a.number ≡ 0) → fm' ≡ fm''
        go (no ne) = (one.refused ne).1 ∙ sym (two.refused (λ e. ne (same_number ∙ e))).1
        go (yes e) =
            let had = reads_accepted s rate active lane r frame (control_lengths l) (length curve) (length inner) (length fm) (length last) (sym one.number ∙ e) in
            same_columns nan s.lanes fm' fm'' had.accepted.lanes (one.size ∙ sym two.size)
            (each_unique (one.carry e) (two.carry (sym same_number ∙ e)))

-- ---- a sample

module _ (s : Settings) (active lane : ℕ) (r : Range) (frame step : ℕ) (x : Float) (l : ControlBuffers) (pairs last : List Float) where
  abbrev sample_number : ℕ
  sample_number = sample_refusal s active lane r frame (control_lengths l) (length pairs) (length last)

  pub sample_turned_down : (outcome : Result (ℕ × Float) Refusal) (e : Refusal) → IsErrAnd outcome (λ x. x ≡ e)
      → number_of {A = Unit {0}} (Err e) ≡ sample_number
      → SampleCall s active lane r frame step x l pairs last pairs last (valued_of outcome)
  unfolding number_of valued_of of_bits
  sample_turned_down (Ok _) e h number = absurd h
  sample_turned_down (Err y) e h number =
      let ne : line_of y ≡ 0 → ⊥ = λ z. omega (arith, some_line y) in
      record {
        number = ap line_of h ∙ number;
        frames = rw (ne_eqb (line_of y) 0 ne);
        refused = λ _. (refl, refl, refl);
        value = λ z. absurd (ne z);
        filters = λ z. absurd (ne z);
        kept = λ z. absurd (ne z);
        sizes = (refl, refl);
      }

  pub sample_done : {pairs' last' : List Float} {y : Float} → sample_number ≡ 0
      → SampleTaken s lane (sample_from s lane (r.first + frame / s.factor) (frame % s.factor) step x l pairs last) pairs last pairs' last' y
      → length pairs' ≡ length pairs → length last' ≡ length last
      → SampleCall s active lane r frame step x l pairs last pairs' last' (valued_of (Ok (r.count, y)))
  unfolding valued_of
  sample_done e did size-pairs size-last =
      record {
        number = sym e;
        frames = refl;
        refused = λ h. absurd (h refl);
        value = λ z. did.value;
        filters = λ z. did.filters;
        kept = λ z. did.kept;
        sizes = (size-pairs, size-last);
      }

  -- two calls with the same arguments and buffers end alike
  module _ {pairs' last' pairs'' last'' : List Float} {a b : Valued} (one : SampleCall s active lane r frame step x l pairs last pairs' last' a)
      (two : SampleCall s active lane r frame step x l pairs last pairs'' last'' b) where
    equal_number : a.number ≡ b.number
    equal_number = one.number ∙ sym two.number

    equal_value : a.value ≡ b.value
    equal_value = go (ℕ_discrete a.number 0)
      where
        go : Dec (a.number ≡ 0) → a.value ≡ b.value
        go (no ne) = (one.refused ne).0 ∙ sym (two.refused (λ e. ne (equal_number ∙ e))).0
        go (yes e) = one.value e ∙ sym (two.value (sym equal_number ∙ e))

    pub same_sample : a ≡ b
    same_sample =
        let frames : a.frames ≡ b.frames = one.frames ∙ rw equal_number (sym two.frames) in
        λ i. record { number = equal_number i; frames = frames i; value = equal_value i }

    pub same_state : (pairs' ≡ pairs'') × (last' ≡ last'')
    same_state = go (ℕ_discrete a.number 0)
      where
        go : Dec (a.number ≡ 0) → (pairs' ≡ pairs'') × (last' ≡ last'')
        go (no ne) =
            let p = one.refused ne in
            let q = two.refused (λ e. ne (equal_number ∙ e)) in
            (p.1 ∙ sym q.1, p.2 ∙ sym q.2)
        go (yes e) =
            let had = sample_accepted s active lane r frame (control_lengths l) (length pairs) (length last) (sym one.number ∙ e) in
            let e' = sym equal_number ∙ e in (
              same_columns nan s.lanes pairs' pairs'' had.accepted.lanes (one.sizes.0 ∙ sym two.sizes.0)
                  (each_unique (one.filters e) (two.filters e')),
              same_columns nan s.lanes last' last'' had.accepted.lanes (one.sizes.1 ∙ sym two.sizes.1)
                  (each_unique (one.kept e) (two.kept e')),
            )
