-- A block that there is: 6 host frames of 2 lanes at factor 4, one lane active, in one call and in two, and with a refused call in front.
-- Assumes nothing.
use mathlib.Core.Path.{◌≡◌, refl}
use mathlib.Core.List.{[], ◌∷◌}
use native.Mathlib.Omega.{arith}
use lib.ListN.{replicate}
use Rattle.floats.specs.F32.{0f, ½f}
use Rattle.lanes.specs.Numbers.{rust_numbers}
use Rattle.limits.specs.Lines.{first_of}
use Rattle.limits.specs.Lengths.{spans_of}
use Rattle.halfband.specs.Floats.{card_designs}
use Rattle.render.specs.declared.state.BlockSettings.{BlockSettings}
use Rattle.controls.specs.Controls.{control_buffers}
use Rattle.render.specs.Lane.{Lent}
use Rattle.share.specs.Share.{Buffers}
use Rattle.block.specs.Refusal.{block_refusal}
use Rattle.block.specs.Call.{Call, call_numbers, read_lengths, write_lengths, refusal_of}
use Rattle.cuts.specs.Cuts.{leaving, RunA, Agree, Demand3}
use Rattle.cuts.proofs.Made.{made, met_by}
use Rattle.cuts.proofs.Runs.{range, whole, first_part, second_part, refused_lent, in_two}
use Rattle.cuts.proofs.Cuts.{cuts}

unfoldable pub settings : BlockSettings
settings =
    record {
      shaper =
          record {
            slot0 = record { mode = 1; character = ½f };
            slot1 = record { mode = 69; character = 0f };
            factor = 4;
            lanes = 2;
            frames = 6;
            numbers = rust_numbers;
          };
      rate = 48000;
      designs = card_designs;
    }

-- modulation of slot 0, the source of slot 1
unfoldable pub lent : Lent
lent =
    record {
      controls = control_buffers (replicate 2 ½f) (replicate 2 ½f) (replicate 12 ½f) [] [] (replicate 12 ½f);
      curve = replicate 1025 ½f;
      cycle = replicate 2048 ½f;
      words = replicate 48 0;
      steps = replicate 48 1;
      inner = replicate 2 ½f;
    }

unfoldable pub before : Buffers
before =
    record {
      output = replicate 12 0f;
      work = replicate 48 0f;
      pairs = replicate 8 0f;
      fm = replicate 4 0f;
      last = replicate 2 0f;
      dec = replicate 144 0f;
    }

passes_all : block_refusal (call_numbers settings (range 0 6) 1) (read_lengths 36 13 lent) (write_lengths before) ≡ 0
unfolding settings lent before block_refusal first_of card_designs spans_of
passes_all = refl

pub example : Call
example = made settings (range 0 6) 1 36 13 lent before

pub example_runs : RunA example 0
unfolding example settings
example_runs = whole settings 1 36 13 lent before 0 passes_all (omega arith)

-- and demand 3 speaks of it
pub example_cut : Agree example 0 (first_part example 4 ∷ second_part example 4 ∷ []) (leaving (second_part example 4) 0)
unfolding Demand3 example settings
example_cut = cuts example 0 _ _ example_runs (in_two example 0 example_runs 4 (omega arith))

-- a call past the block's end in the same buffers: it is lent the lane's state and refused
pub past_end : Call
past_end = made settings (range 0 7) 1 36 13 lent before

past_end_number : refusal_of past_end ≡ 4
unfolding past_end settings lent before refusal_of block_refusal first_of card_designs spans_of
past_end_number = refl

pub example_refused : Agree example 0 (past_end ∷ first_part example 4 ∷ second_part example 4 ∷ []) (leaving (second_part example 4) 0)
unfolding Demand3 example past_end settings
example_refused =
    cuts example 0 _ _ example_runs
    (refused_lent example 0 0 _ _ _ past_end 2 0 (met_by _ _ _ _ _ _ _) (λ ok. omega (arith, past_end_number)) refl
    (in_two example 0 example_runs 4 (omega arith)))
