-- A `prepare` that changes nothing. Document 01: "Zero frames and zero active lanes are accepted and change nothing." Assumes nothing.
use mathlib.Core.Path.{◌≡◌, refl, sym}
use mathlib.Core.Logic.{◌⊎◌, inl, inr}
use Prim.Native.Nat.{ℕ}
use native.Mathlib.Omega.{arith}
use mathlib.Core.List.{List}
use lib.Ieee.{Float}
use Rattle.grid.specs.Lanes.{Each}
use Rattle.grid.proofs.FunctionLaws.{upto_none}
use Rattle.grid.proofs.EachLaws.{each_id, each_none, each_same}
use Rattle.limits.specs.declared.answers.Answer.{Answer}
use Rattle.limits.specs.Lengths.{spans_of}
use Rattle.controls.specs.Controls.{Controls, ControlBuffers}
use Rattle.spans.specs.Slopes.{span_at}
use Rattle.spans.specs.Prepared.{Spans, View, views, filled, share, Prepared}
use Rattle.spans.proofs.PreparedLaws.{same_spans}

-- no sub-block
filled_still : (mode0 mode1 factor frames rate : ℕ) (curve : Float) (c : Controls) (v : View) → filled mode0 mode1 factor frames rate curve c 0 v ≡ v
unfolding filled
filled_still mode0 mode1 factor frames rate curve c v =
    let inners = upto_none (λ s. (span_at mode0 mode1 factor frames rate curve c s).inner) v.inner in
    let stretches = upto_none (λ s. (span_at mode0 mode1 factor frames rate curve c s).stretch) v.stretch in
    let adds = upto_none (λ s. (span_at mode0 mode1 factor frames rate curve c s).add) v.add in
    λ i. record { inner = inners i; stretch = stretches i; add = adds i }

no_spans : spans_of 0 ≡ 0
unfolding spans_of
no_spans = refl

module _ {mode0 mode1 factor n active f rate : ℕ} {b : ControlBuffers} {curve : List Float} {w w' : Spans} {a : Answer}
    (did : Prepared mode0 mode1 factor n active f rate b curve w w' a) where
  -- a call in which no lane's share does anything
  still : Each n 0 active (share mode0 mode1 factor n f rate b curve) (views n w) (views n w) → w' ≡ w
  still idle =
      same_spans mode0 mode1 factor n active f rate b curve w did
      (record {
        number = did.number;
        frames = did.frames;
        refused = λ ne. refl;
        lanes = λ e. idle;
        inner = refl;
        stretch = refl;
        add = refl;
      })

  pub nothing : (f ≡ 0) ⊎ (active ≡ 0) → w' ≡ w
  nothing (inl none) = still (each_same each_id (λ l hl lo hi. sym (rw (none, no_spans) (filled_still _ _ _ _ _ _ _ _))))
  nothing (inr none) = still (each_none (omega arith))
