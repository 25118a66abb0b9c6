-- The laws of a decimation's refusals: what an accepted one has. Assumes nothing.
use mathlib.Core.Path.{◌≡◌, refl}
use mathlib.Core.Bool.{false, ◌||◌}
use Prim.Native.Nat.{ℕ, zero, suc, ◌^◌, ◌≤◌, ◌<◌}
use native.Mathlib.Omega.{arith}
use Rattle.limits.specs.Lines.{first_of, number_lines, bad_factor, bad_lanes, bad_frames, bad_counts}
use Rattle.limits.specs.Lengths.{rendered_length, coefs_length, state_length, shorter}
use Rattle.limits.proofs.LineLaws.{then_lengths, whole_table, no_line, or_false, the_factor, good_lanes, good_frames, good_counts}
use Rattle.limits.proofs.LengthLaws.{long_enough}
use Rattle.halfband.specs.declared.design.Designs.{Designs}
use Rattle.halfband.specs.Floats.{design_of}
use Rattle.halfband.specs.Halfband.{stages_of}
use Rattle.halfband.specs.Refusal.{refusal}
use Rattle.halfband.specs.Promises.{Taken}
use Rattle.halfband.specs.Decimated.{call_number}

-- the stages of a factor
pub good_factor : (factor : ℕ) → bad_factor factor ≡ false → (stages_of factor ≤ 3) × (factor ≡ 2 ^ stages_of factor)
unfolding stages_of
good_factor =
    the_factor (λ (f : ℕ). (stages_of f ≤ 3) × (f ≡ 2 ^ stages_of f))
    (omega arith, refl)
    (omega arith, refl)
    (omega arith, refl)
    (omega arith, refl)

-- one of three
pub three : (P : ℕ → Type 0) → P 0 → P 1 → P 2 → (j : ℕ) → j < 3 → P j
three P p0 p1 p2 zero h = p0
three P p0 p1 p2 (suc zero) h = p1
three P p0 p1 p2 (suc (suc zero)) h = p2
three P p0 p1 p2 (suc (suc (suc j))) h = absurd (omega arith)

-- ---- the table, as the code goes through it
pub table_is : (factor n active f count0 count1 count2 coefs buffer state : ℕ)
    → refusal factor n active f count0 count1 count2 coefs buffer state
    ≡ then_lengths (first_of (number_lines false (bad_factor factor) (bad_lanes n active) (bad_frames f) false (bad_counts count0 count1 count2)))
    (shorter coefs_length coefs) (shorter (rendered_length f factor n) buffer || shorter (state_length n) state)
unfolding refusal first_of
table_is factor n active f count0 count1 count2 coefs buffer state =
    whole_table false (bad_factor factor) (bad_lanes n active) (bad_frames f) false (bad_counts count0 count1 count2)
    (shorter coefs_length coefs) (shorter (rendered_length f factor n) buffer || shorter (state_length n) state)

-- ---- an accepted decimation

-- the table's lines
pub record Passed (ds : Designs) (coefs factor n active f buffer state : ℕ) : Type 0 where
  pub factors : bad_factor factor ≡ false
  pub lanes : bad_lanes n active ≡ false
  pub frames : bad_frames f ≡ false
  pub counts : bad_counts (design_of ds 0).count (design_of ds 1).count (design_of ds 2).count ≡ false
  pub read : shorter coefs_length coefs ≡ false
  pub rows : shorter (rendered_length f factor n) buffer ≡ false
  pub cells : shorter (state_length n) state ≡ false

module _ (ds : Designs) (coefs factor n active f buffer state : ℕ) where
  pub passed : Passed ds coefs factor n active f buffer state → call_number ds coefs factor n active f buffer state ≡ 0
  unfolding refusal first_of
  passed p = rw (p.factors, p.lanes, p.frames, p.counts, p.read, p.rows, p.cells)

  pub accepted : call_number ds coefs factor n active f buffer state ≡ 0 → Passed ds coefs factor n active f buffer state
  unfolding refusal first_of
  accepted e =
      let p =
      no_line false (bad_factor factor) (bad_lanes n active) (bad_frames f) false (bad_counts (design_of ds 0).count (design_of ds 1).count (design_of ds 2).count)
      (shorter coefs_length coefs) (shorter (rendered_length f factor n) buffer || shorter (state_length n) state) e in
      let written = or_false (shorter (rendered_length f factor n) buffer) (shorter (state_length n) state) p.written in
      record {
        factors = p.numbers.factor;
        lanes = p.numbers.lanes;
        frames = p.numbers.frames;
        counts = p.numbers.counts;
        read = p.read;
        rows = written.0;
        cells = written.1;
      }

  -- what the calls for its lanes ask for
  pub taken_of : call_number ds coefs factor n active f buffer state ≡ 0 → Taken ds (stages_of factor) f n buffer state × (active ≤ n)
  taken_of e =
      let p = accepted e in
      let factors = good_factor factor p.factors in
      let counts = good_counts (design_of ds 0).count (design_of ds 1).count (design_of ds 2).count p.counts in
      let lanes = good_lanes n active p.lanes in (
        record {
          stages = factors.0;
          few = lanes.1;
          frames = good_frames f p.frames;
          counts = three (λ (j : ℕ). (design_of ds j).count ≤ 12) counts.0 counts.1 counts.2;
          rows = rw (← factors.1) (long_enough (rendered_length f factor n) buffer p.rows);
          cells = long_enough (state_length n) state p.cells;
        },
        lanes.2,
      )
