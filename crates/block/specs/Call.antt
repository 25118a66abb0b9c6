-- A block run as data, and what it promises: `block_run`'s contract is `Meets`. Definitions only.
use Rattle.std.specs.Prelude.{ℕ, ◌≤◌, ◌≡◌, cond, eqb, length}
use Rattle.grid.specs.Lanes.{Each}
use Rattle.limits.specs.declared.answers.Answer.{Answer}
use Rattle.controls.specs.Controls.{control_lengths}
use Rattle.halfband.specs.Floats.{design_of}
use Rattle.shaper.specs.declared.settings.Range.{Range}
use Rattle.render.specs.declared.state.BlockSettings.{BlockSettings}
use Rattle.render.specs.Lane.{Lent, Inputs, inputs_of}
use Rattle.render.specs.Promises.{Limits, Readable}
use Rattle.share.specs.Share.{Buffers, Columns, columns_of, share}
use Rattle.share.specs.Promises.{Writable}
use Rattle.block.specs.declared.refusal.CallNumbers.{CallNumbers}
use Rattle.block.specs.declared.refusal.ReadLengths.{ReadLengths}
use Rattle.block.specs.declared.refusal.WriteLengths.{WriteLengths}
use Rattle.block.specs.Refusal.{block_refusal}

-- `coefs` and `numbers` are how many coefficients and sine and arctangent numbers it is lent: 36 and 13 where they come by value
pub record Call : Type 0 where
  pub settings : BlockSettings
  pub range : Range
  pub active : ℕ
  pub coefs : ℕ
  pub numbers : ℕ
  pub lent : Lent
  pub before : Buffers
  pub after : Buffers
  pub answer : Answer

-- what the table looks at: numbers, and the lengths of what is lent to read and to write
abbrev pub call_numbers : BlockSettings → Range → ℕ → CallNumbers
call_numbers b r active =
    record {
      mode0 = b.shaper.slot0.mode;
      mode1 = b.shaper.slot1.mode;
      factor = b.shaper.factor;
      lanes = b.shaper.lanes;
      active = active;
      frames = b.shaper.frames;
      first = r.first;
      count = r.count;
      rate = b.rate;
      count0 = (design_of b.designs 0).count;
      count1 = (design_of b.designs 1).count;
      count2 = (design_of b.designs 2).count;
    }

abbrev pub read_lengths : ℕ → ℕ → Lent → ReadLengths
read_lengths coefs numbers r =
    record {
      controls = control_lengths r.controls;
      curve = length r.curve;
      cycle = length r.cycle;
      words = length r.words;
      steps = length r.steps;
      inner = length r.inner;
      coefs = coefs;
      numbers = numbers;
    }

abbrev pub write_lengths : Buffers → WriteLengths
write_lengths b =
    record {
      output = length b.output;
      work = length b.work;
      pairs = length b.pairs;
      fm = length b.fm;
      last = length b.last;
      dec = length b.dec;
    }

-- the number by the table
unfoldable pub refusal_of : Call → ℕ
refusal_of c =
    block_refusal (call_numbers c.settings c.range c.active) (read_lengths c.coefs c.numbers c.lent) (write_lengths c.before)

-- what `run_lanes` asks for: an accepted run has it, and an accepted lane's call with lane + 1 for `active`
pub record Taken (b : BlockSettings) (r : Range) (active : ℕ) (l : Lent) (w : Buffers) : Type 0 where
  pub limits : Limits b r
  pub actives : active ≤ b.shaper.lanes
  pub readable : Readable b.shaper l
  pub writable : Writable b.shaper r w

abbrev pub lanes_of : Call → ℕ
lanes_of c = c.settings.shaper.lanes

-- a lane's inputs
abbrev pub inputs : Call → ℕ → Inputs
inputs c lane = inputs_of c.settings.shaper c.lent lane

-- what is done to each active lane: every cell that changes
abbrev pub share_of : Call → ℕ → Columns → Columns
share_of c lane = share c.settings c.range (inputs c lane)

-- `lanes` is about every row of all six buffers: the range's output rows, every work row, every state cell; rows outside the range, cells
-- past document 01's lengths and the lanes from `active` on are as before
pub record Meets (c : Call) : Type 0 where
  pub number : c.answer.number ≡ refusal_of c
  pub frames : c.answer.frames ≡ cond (eqb (refusal_of c) 0) c.range.count 0
  pub refused : (refusal_of c ≡ 0 → ⊥) → c.after ≡ c.before
  pub lanes : refusal_of c ≡ 0 → Each (lanes_of c) 0 c.active (share_of c) (columns_of (lanes_of c) c.before) (columns_of (lanes_of c) c.after)
  pub sizes : write_lengths c.after ≡ write_lengths c.before

abbrev pub called : BlockSettings → Range → ℕ → ℕ → ℕ → Lent → Buffers → Buffers → Answer → Call
called settings range active coefs numbers lent before after answer =
    record {
      settings = settings;
      range = range;
      active = active;
      coefs = coefs;
      numbers = numbers;
      lent = lent;
      before = before;
      after = after;
      answer = answer;
    }
