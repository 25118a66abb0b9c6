-- One lane's whole share of a range of a block: its samples into the work rows, their decimation in place, the copy to the range's output
-- rows, and its state after it. Definitions only.
use Rattle.std.specs.Prelude.{ℕ, List, Float}
use Rattle.std.specs.Float.{nan}
use Rattle.grid.specs.Functions.{upd, upto, span}
use Rattle.grid.specs.Cells.{col, blk}
use Rattle.halfband.specs.Halfband.{cascade, stages_of}
use Rattle.halfband.specs.Floats.{floats, design_of}
use Rattle.shaper.specs.declared.settings.Range.{Range}
use Rattle.shaper.specs.Lane.{put_pairs, put_carry}
use Rattle.render.specs.declared.state.BlockSettings.{BlockSettings}
use Rattle.render.specs.declared.state.Voice.{Voice}
use Rattle.render.specs.Lane.{Inputs, voice_of, voice_after, sample_at, first_frame, frame_count}

-- the six buffers that a block run writes
pub record Buffers : Type 0 where
  pub output : List Float
  pub work : List Float
  pub pairs : List Float
  pub fm : List Float
  pub last : List Float
  pub dec : List Float

abbrev pub buffers : List Float → List Float → List Float → List Float → List Float → List Float → Buffers
buffers output work pairs fm last dec = record { output = output; work = work; pairs = pairs; fm = fm; last = last; dec = dec }

-- a lane's columns of them; its decimator cells in blocks of 24
pub record Columns : Type 0 where
  pub output : ℕ → Float
  pub work : ℕ → Float
  pub pairs : ℕ → Float
  pub fm : ℕ → Float
  pub last : ℕ → Float
  pub dec : ℕ → ℕ → Float

unfoldable pub columns_of : ℕ → Buffers → ℕ → Columns
columns_of n b lane =
    record {
      output = col nan n lane b.output;
      work = col nan n lane b.work;
      pairs = col nan n lane b.pairs;
      fm = col nan n lane b.fm;
      last = col nan n lane b.last;
      dec = blk nan 24 n lane b.dec;
    }

-- the lane's state as it enters
abbrev pub enters : Columns → Voice
enters v = voice_of v.pairs v.fm v.last

-- the samples in the work rows, and the state after them
unfoldable pub rendered : BlockSettings → Range → Inputs → Columns → Columns
rendered b r i v =
    let end = voice_after b i (first_frame b r) (enters v) (frame_count b r) in
    record {
      output = v.output;
      work = upto (frame_count b r) (sample_at b i (first_frame b r) (enters v)) v.work;
      pairs = put_pairs end.pairs0 end.pairs1 v.pairs;
      fm = put_carry end.fm0 end.fm1 v.fm;
      last = upd v.last 0 end.last;
      dec = v.dec;
    }

-- the work rows decimated in place; rows past the result hold what the stages left there
unfoldable pub decimated : BlockSettings → Range → Columns → Columns
decimated b r v =
    let d = cascade floats (design_of b.designs) (stages_of b.shaper.factor) r.count (record { rows = v.work; cells = v.dec }) in
    record { output = v.output; work = d.rows; pairs = v.pairs; fm = v.fm; last = v.last; dec = d.cells }

-- the result copied to the range's output rows
unfoldable pub copied : Range → Columns → Columns
copied r v =
    record { output = span r.first r.count v.work v.output; work = v.work; pairs = v.pairs; fm = v.fm; last = v.last; dec = v.dec }

unfoldable pub share : BlockSettings → Range → Inputs → Columns → Columns
share b r i v = copied r (decimated b r (rendered b r i v))
