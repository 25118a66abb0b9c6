-- Numbers that a plan's lines pass. Assumes nothing.
use mathlib.Core.Path.{◌≡◌}
use mathlib.Core.Bool.{false}
use Prim.Native.Nat.{◌≤◌}
use native.Mathlib.Omega.{arith}
use Rattle.limits.specs.Lines.{bad_factor, bad_lanes, bad_frames, bad_counts}
use Rattle.limits.proofs.LineLaws.{first_passed, small_factor, good_lanes, good_frames, good_counts}
use Rattle.plan.specs.declared.needs.BlockNumbers.{BlockNumbers}
use Rattle.plan.specs.Plan.{plan_refusal, Within}

-- each line by itself
pub record Passed (b : BlockNumbers) : Type 0 where
  pub line2 : bad_factor b.factor ≡ false
  pub line3 : bad_lanes b.lanes b.active ≡ false
  pub line4 : bad_frames b.frames ≡ false
  pub line6 : bad_counts b.count0 b.count1 b.count2 ≡ false

pub passed : (b : BlockNumbers) → plan_refusal b ≡ 0 → Passed b
unfolding plan_refusal
passed b z =
    let p2 = first_passed (bad_factor b.factor) 1 _ z in
    let p3 = first_passed (bad_lanes b.lanes b.active) 2 _ p2.1 in
    let p4 = first_passed (bad_frames b.frames) 3 _ p3.1 in
    let p6 = first_passed (bad_counts b.count0 b.count1 b.count2) 5 _ p4.1 in
    record { line2 = p2.0; line3 = p3.0; line4 = p4.0; line6 = p6.0 }

pub within : (b : BlockNumbers) → plan_refusal b ≡ 0 → Within b
within b z =
    let p = passed b z in
    let lanes = good_lanes b.lanes b.active p.line3 in
    let actives : b.active ≤ 64 = omega (arith, lanes) in
    let counts = good_counts _ _ _ p.line6 in
    record {
      most_lanes = lanes.1;
      most_active = actives;
      most_factor = (small_factor _ p.line2).1;
      most_frames = good_frames _ p.line4;
      most0 = counts.0;
      most1 = counts.1;
      most2 = counts.2;
    }
