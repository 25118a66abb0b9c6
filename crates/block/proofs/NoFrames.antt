-- A range of no frames: a lane's share of it changes nothing. Assumes nothing.
use mathlib.Core.Path.{◌≡◌, ◌∙◌, ap}
use Prim.Native.Nat.{ℕ, ◌*◌}
use native.Mathlib.Nat.{zero-mul}
use lib.Ieee.{Float}
use Rattle.grid.specs.Functions.{upd, upto, span}
use Rattle.grid.proofs.FunctionLaws.{upd_self, upto_none, span_none}
use Rattle.halfband.specs.Halfband.{cascade, stages_of}
use Rattle.halfband.specs.Floats.{floats, design_of}
use Rattle.halfband.proofs.RangeLaws.{cascade_still}
use Rattle.shaper.specs.declared.settings.Range.{Range}
use Rattle.shaper.specs.Lane.{pair0, pair1, put_pairs, put_carry}
use Rattle.render.specs.declared.state.BlockSettings.{BlockSettings}
use Rattle.render.specs.declared.state.Voice.{Voice}
use Rattle.render.specs.Lane.{Inputs, voice_after, sample_at, first_frame}
use Rattle.share.specs.Share.{Columns, enters, rendered, decimated, copied, share}
use Rattle.render.proofs.VoiceLaws.{voice_none}

-- a state that is stored as it was
own_pairs : (f : ℕ → Float) → put_pairs (pair0 f) (pair1 f) f ≡ f
unfolding put_pairs
own_pairs f = rw (upd_self f 0, upd_self f 1, upd_self f 2, upd_self f 3)

own_carry : (f : ℕ → Float) → put_carry (f 0) (f 1) f ≡ f
unfolding put_carry
own_carry f = rw (upd_self f 0, upd_self f 1)

module _ (b : BlockSettings) (r : Range) (i : Inputs) (v : Columns) (none : r.count ≡ 0) where
  rendered_still : rendered b r i v ≡ v
  unfolding rendered
  rendered_still =
      let end : voice_after b i (first_frame b r) (enters v) (r.count * b.shaper.factor) ≡ enters v =
      rw (none, zero-mul) (voice_none b i (first_frame b r) (enters v)) in
      let work : upto (r.count * b.shaper.factor) (sample_at b i (first_frame b r) (enters v)) v.work ≡ v.work =
      rw (none, zero-mul) (upto_none _ v.work) in
      let pairs = ap (λ (x : Voice). put_pairs x.pairs0 x.pairs1 v.pairs) end ∙ own_pairs v.pairs in
      let fm = ap (λ (x : Voice). put_carry x.fm0 x.fm1 v.fm) end ∙ own_carry v.fm in
      let last = ap (λ (x : Voice). upd v.last 0 x.last) end ∙ upd_self v.last 0 in
      λ j. record { output = v.output; work = work j; pairs = pairs j; fm = fm j; last = last j; dec = v.dec }

  decimated_still : decimated b r v ≡ v
  unfolding decimated
  decimated_still =
      let d : cascade floats (design_of b.designs) (stages_of b.shaper.factor) r.count (record { rows = v.work; cells = v.dec })
      ≡ (record { rows = v.work; cells = v.dec }) =
      rw none (cascade_still floats (design_of b.designs) (stages_of b.shaper.factor) _) in
      λ j. record { output = v.output; work = (d j).rows; pairs = v.pairs; fm = v.fm; last = v.last; dec = (d j).cells }

  copied_still : copied r v ≡ v
  unfolding copied
  copied_still =
      let output : span r.first r.count v.work v.output ≡ v.output = rw none (span_none r.first v.work v.output) in
      λ j. record { output = output j; work = v.work; pairs = v.pairs; fm = v.fm; last = v.last; dec = v.dec }

  pub share_still : share b r i v ≡ v
  unfolding share
  share_still = rw (rendered_still, decimated_still) copied_still
