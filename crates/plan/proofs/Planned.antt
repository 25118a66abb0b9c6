-- What a plan says of runs holds. Assumes nothing.
use mathlib.Core.Path.{◌≡◌, refl, sym, ◌∙◌, ap}
use mathlib.Core.Bool.{Bool, true, false, cond, ◌||◌}
use Prim.Native.Nat.{ℕ, zero, suc, ◌+◌, ◌*◌, ◌^◌, ◌≤◌, ◌<◌}
use native.Mathlib.Decide.{ℕ_discrete}
use native.Mathlib.Omega.{arith}
use lib.Dec.{eqb}
use borrow.Author.Tests.{ne_eqb, eq-eqb, le-ltb}
use Rattle.limits.specs.Lines.{first_of, bad_modes, bad_factor, bad_lanes, bad_frames, bad_range, bad_rate, bad_counts}
use Rattle.limits.proofs.LineLaws.{the_factor}
use Rattle.halfband.specs.Halfband.{cascade, stages_of}
use Rattle.halfband.specs.Floats.{floats, design_of}
use Rattle.share.specs.Share.{Columns, decimated}
use Rattle.block.specs.declared.refusal.CallNumbers.{CallNumbers}
use Rattle.block.specs.declared.refusal.ReadLengths.{ReadLengths}
use Rattle.block.specs.declared.refusal.WriteLengths.{WriteLengths}
use Rattle.block.specs.Refusal.{block_refusal}
use Rattle.block.specs.Call.{Call}
use Rattle.plan.specs.declared.needs.BlockNumbers.{BlockNumbers}
use Rattle.plan.specs.Counting.{cascade_steps, count_at, lane_steps}
use Rattle.plan.specs.Plan.{plan_refusal, needed, nothing, plan_of, steps_of}
use Rattle.plan.specs.OneRange.{OneRange, Makes}
use Rattle.plan.specs.Planned.{block_steps, Planned, TurnedDown}
use Rattle.plan.proofs.SumLaws.{sum_same, sum_const}
use Rattle.plan.proofs.CountLaws.{steps_are}
use Rattle.plan.proofs.Passed.{passed}
use Rattle.plan.proofs.SizeLaws.{sizes_least}
use Rattle.plan.proofs.Reached.{most_reads_lem}

-- ---- steps

-- they go by the counts of the stages that run
same_counts : (f g : ℕ → ℕ) (s frames : ℕ) → ((j : ℕ) → j < s → f j ≡ g j) → cascade_steps f s frames ≡ cascade_steps g s frames
same_counts f g s frames same =
    steps_are f frames s
    ∙ sum_same s _ (λ j. g j * (frames * 2 ^ j)) (λ j h. ap (λ (k : ℕ). k * (frames * 2 ^ j)) (same j h)) ∙ sym (steps_are g frames s)

-- of which there are at most three
three : (factor : ℕ) → bad_factor factor ≡ false → stages_of factor ≤ 3
unfolding stages_of
three factor good = the_factor (λ u. stages_of u ≤ 3) (omega arith) (omega arith) (omega arith) (omega arith) factor good

module _ (b : BlockNumbers) (c : Call) (is : Makes b c) where
  design_count : (j : ℕ) → j < 3 → (design_of c.settings.designs j).count ≡ count_at b.count0 b.count1 b.count2 j
  design_count zero h = is.count0
  design_count (suc zero) h = is.count1
  design_count (suc (suc zero)) h = is.count2
  design_count (suc (suc (suc j))) h = absurd (omega arith)

  run_steps : bad_factor b.factor ≡ false → block_steps c ≡ steps_of b
  unfolding block_steps steps_of lane_steps
  run_steps good =
      rw (is.factor, is.count, is.active)
      (sum_const b.active _
      ∙ ap (λ (k : ℕ). b.active * k)
      (same_counts _ _ (stages_of b.factor) b.frames (λ j h. design_count j (omega (arith, three b.factor good)))))

-- the definition that counts them is the one that decimates the run's samples, with the same designs, stages and frames
pub run_decimates : (c : Call) (v : Columns)
    → (decimated c.settings c.range v).dec
    ≡ (cascade floats (design_of c.settings.designs) (stages_of c.settings.shaper.factor) c.range.count (record { rows = v.work; cells = v.dec })).cells
unfolding decimated
run_decimates c v = refl

-- ---- the plan

-- an accepted plan passed its lines
accepted : (b : BlockNumbers) → (plan_of b).number ≡ 0 → plan_refusal b ≡ 0
unfolding plan_of nothing
accepted b = go (ℕ_discrete (plan_refusal b) 0)
  where
    go : Dec (plan_refusal b ≡ 0) → (cond (eqb (plan_refusal b) 0) (needed b) (nothing (plan_refusal b))).number ≡ 0 → plan_refusal b ≡ 0
    go (yes e) _ = e
    go (no ne) e = sym (ap (λ t. (cond t (needed b) (nothing (plan_refusal b))).number) (ne_eqb _ 0 ne)) ∙ e

-- and has what is needed
has_needed : (b : BlockNumbers) → plan_refusal b ≡ 0 → plan_of b ≡ needed b
unfolding plan_of
has_needed b ok = rw (eq-eqb _ 0 ok)

of_needed : (b : BlockNumbers) → plan_refusal b ≡ 0 → Planned b (needed b)
unfolding needed
of_needed b ok = record { sizes = sizes_least b ok; reads = most_reads_lem b ok; steps = λ c is. run_steps b c is (passed b ok).line2 }

pub planned : (b : BlockNumbers) → (plan_of b).number ≡ 0 → Planned b (plan_of b)
planned b answered = let ok = accepted b answered in rw (has_needed b ok) (of_needed b ok)

-- ---- a plan that is turned down

has_zeros : (b : BlockNumbers) → (plan_refusal b ≡ 0 → ⊥) → plan_of b ≡ nothing (plan_refusal b)
unfolding plan_of
has_zeros b bad = rw (ne_eqb _ 0 bad)

abbrev lines : Bool → Bool → Bool → Bool → ℕ → ℕ
lines t2 t3 t4 t6 rest = cond t2 2 (cond t3 3 (cond t4 4 (cond t6 6 rest)))

-- lines 7 and 8 come after it
before_lengths : (t2 t3 t4 t6 : Bool) (rest : ℕ) → (lines t2 t3 t4 t6 0 ≡ 0 → ⊥) → lines t2 t3 t4 t6 rest ≡ lines t2 t3 t4 t6 0
before_lengths true t3 t4 t6 rest bad = refl
before_lengths false true t4 t6 rest bad = refl
before_lengths false false true t6 rest bad = refl
before_lengths false false false true rest bad = refl
before_lengths false false false false rest bad = absurd (bad refl)

-- the whole block is a range of it
whole_range : (frames : ℕ) → bad_range frames 0 frames ≡ bad_frames frames
whole_range frames = rw (le-ltb frames (0 + frames) (omega arith)) (or_none (bad_frames frames))
  where
    or_none : (t : Bool) → (t || false) ≡ t
    or_none true = refl
    or_none false = refl

module _ (b : BlockNumbers) (bad : plan_refusal b ≡ 0 → ⊥) (call : CallNumbers) (reads : ReadLengths) (writes : WriteLengths) (is : OneRange b call) where
  run_refused : bad_modes call.mode0 call.mode1 ≡ false → bad_rate call.rate ≡ false → block_refusal call reads writes ≡ plan_refusal b
  unfolding block_refusal plan_refusal first_of
  run_refused modes rate =
      rw (modes, rate, is.factor, is.lanes, is.active, is.frames, is.first, is.count, is.count0, is.count1, is.count2, whole_range b.frames)
      (before_lengths (bad_factor b.factor) (bad_lanes b.lanes b.active) (bad_frames b.frames) (bad_counts b.count0 b.count1 b.count2) _ bad)

needed_accepted : (b : BlockNumbers) → (needed b).number ≡ 0
unfolding needed
needed_accepted b = refl

of_nothing : (b : BlockNumbers) → (plan_refusal b ≡ 0 → ⊥) → TurnedDown b (nothing (plan_refusal b))
unfolding nothing
of_nothing b bad = record { zeros = refl; alike = run_refused b bad }

pub turned_down_lem : (b : BlockNumbers) → ((plan_of b).number ≡ 0 → ⊥) → TurnedDown b (plan_of b)
turned_down_lem b answered =
    let bad : plan_refusal b ≡ 0 → ⊥ = λ ok. answered (rw (has_needed b ok) (needed_accepted b)) in
    rw (has_zeros b bad) (of_nothing b bad)
