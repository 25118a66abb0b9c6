-- What a block needs that is made as one range. Definitions only.
use Rattle.std.specs.Prelude.{cond, [], ◌∷◌, ℕ, ◌+◌, ◌*◌, ◌≤◌, eqb}
use Rattle.limits.specs.Lines.{first_of, bad_factor, bad_lanes, bad_frames, bad_counts}
use Rattle.limits.specs.Lengths.{rendered_length, pairs_length, carry_length, last_length, state_length}
use Rattle.plan.specs.declared.needs.BlockNumbers.{BlockNumbers}
use Rattle.plan.specs.declared.needs.Plan.{Plan}
use Rattle.plan.specs.Counting.{lane_steps}

-- the numbers one by one, as the C call has them
abbrev pub block_numbers : ℕ → ℕ → ℕ → ℕ → ℕ → ℕ → ℕ → BlockNumbers
block_numbers factor lanes active frames count0 count1 count2 =
    record { lanes = lanes; active = active; factor = factor; frames = frames; count0 = count0; count1 = count1; count2 = count2 }

-- the table's lines for these numbers; the range is the block, so it has no line of its own
unfoldable pub plan_refusal : BlockNumbers → ℕ
plan_refusal b =
    first_of
    ((bad_factor b.factor, 2)
    ∷ (bad_lanes b.lanes b.active, 3)
    ∷ (bad_frames b.frames, 4)
    ∷ (bad_counts b.count0 b.count1 b.count2, 6)
    ∷ [])

-- MAX_READS for each list, and a list for each rendered frame of each active lane
unfoldable pub most_reads : BlockNumbers → ℕ
most_reads b = 4 * (b.active * (b.frames * b.factor))

-- the half-band section steps of the active lanes
unfoldable pub steps_of : BlockNumbers → ℕ
steps_of b = b.active * lane_steps b.factor b.frames b.count0 b.count1 b.count2

-- a refusal gives its number and zeros
unfoldable pub nothing : ℕ → Plan
nothing number = record { number = number; frames = 0; work = 0; state = 0; pairs = 0; fm = 0; last = 0; reads = 0; steps = 0 }

unfoldable pub needed : BlockNumbers → Plan
needed b =
    record {
      number = 0;
      frames = b.frames;
      work = rendered_length b.frames b.factor b.lanes;
      state = state_length b.lanes;
      pairs = pairs_length b.lanes;
      fm = carry_length b.lanes;
      last = last_length b.lanes;
      reads = most_reads b;
      steps = steps_of b;
    }

unfoldable pub plan_of : BlockNumbers → Plan
plan_of b = let number = plan_refusal b in cond (eqb number 0) (needed b) (nothing number)

-- the same block with one host frame
abbrev pub one_frame : BlockNumbers → BlockNumbers
one_frame b = block_numbers b.factor b.lanes b.active 1 b.count0 b.count1 b.count2

-- all floats of a plan together
unfoldable pub floats_of : Plan → ℕ
floats_of p = p.work + p.state + p.pairs + p.fm + p.last

-- bounds of the numbers that pass the lines
pub record Within (b : BlockNumbers) : Type 0 where
  pub most_lanes : b.lanes ≤ 64
  pub most_active : b.active ≤ 64
  pub most_factor : b.factor ≤ 8
  pub most_frames : b.frames ≤ 4096
  pub most0 : b.count0 ≤ 12
  pub most1 : b.count1 ≤ 12
  pub most2 : b.count2 ≤ 12
