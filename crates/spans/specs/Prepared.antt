-- What `prepare` promises. Definitions only.
use Rattle.std.specs.Prelude.{◌≡◌, cond, List, ℕ, eqb, length, take, Float}
use Rattle.std.specs.Float.{nan}
use Rattle.grid.specs.Functions.{upto}
use Rattle.grid.specs.Cells.{col}
use Rattle.grid.specs.Lanes.{Each}
use Rattle.limits.specs.declared.answers.Answer.{Answer}
use Rattle.limits.specs.Lengths.{spans_of, curve_length}
use Rattle.curve.specs.Curve.{steepest_of}
use Rattle.controls.specs.Controls.{Controls, ControlBuffers, control_lengths, controls_of}
use Rattle.spans.specs.declared.refusal.PrepareLengths.{PrepareLengths}
use Rattle.spans.specs.Slopes.{span_at}
use Rattle.spans.specs.Refusal.{prepare_refusal}

-- the three spans
pub record Spans : Type 0 where
  pub inner : List Float
  pub stretch : List Float
  pub add : List Float

abbrev pub spans : List Float → List Float → List Float → Spans
spans inner stretch add = record { inner = inner; stretch = stretch; add = add }

abbrev pub lengths_of : ControlBuffers → List Float → Spans → PrepareLengths
lengths_of b curve w =
    record {
      controls = control_lengths b;
      curve = length curve;
      inner = length w.inner;
      stretch = length w.stretch;
      add = length w.add;
    }

-- a lane's columns of the spans: its number in each row
pub record View : Type 0 where
  pub inner : ℕ → Float
  pub stretch : ℕ → Float
  pub add : ℕ → Float

abbrev pub views : ℕ → Spans → ℕ → View
views n w lane = record { inner = col nan n lane w.inner; stretch = col nan n lane w.stretch; add = col nan n lane w.add }

-- a lane's columns with its sub-blocks in the first `rows` rows
unfoldable pub filled : ℕ → ℕ → ℕ → ℕ → ℕ → Float → Controls → ℕ → View → View
filled mode0 mode1 factor frames rate curve c rows v =
    record {
      inner = upto rows (λ s. (span_at mode0 mode1 factor frames rate curve c s).inner) v.inner;
      stretch = upto rows (λ s. (span_at mode0 mode1 factor frames rate curve c s).stretch) v.stretch;
      add = upto rows (λ s. (span_at mode0 mode1 factor frames rate curve c s).add) v.add;
    }

-- one lane's share of an accepted call: every row of its sub-blocks, and no other
abbrev pub share : ℕ → ℕ → ℕ → ℕ → ℕ → ℕ → ControlBuffers → List Float → ℕ → View → View
share mode0 mode1 factor n frames rate b curve lane =
    filled mode0 mode1 factor frames rate (steepest_of (take curve_length curve)) (controls_of n lane frames b) (spans_of frames)

-- f host frames of the first `active` of n lanes, with the spans before and after
pub record Prepared (mode0 mode1 factor n active f rate : ℕ) (b : ControlBuffers) (curve : List Float) (w w' : Spans) (a : Answer) : Type 0 where
  pub number : a.number ≡ prepare_refusal mode0 mode1 factor n active f rate (lengths_of b curve w)
  pub frames : a.frames ≡ cond (eqb a.number 0) f 0
  pub refused : (a.number ≡ 0 → ⊥) → w' ≡ w
  pub lanes : a.number ≡ 0 → Each n 0 active (share mode0 mode1 factor n f rate b curve) (views n w) (views n w')
  pub inner : length w'.inner ≡ length w.inner
  pub stretch : length w'.stretch ≡ length w.stretch
  pub add : length w'.add ≡ length w.add
