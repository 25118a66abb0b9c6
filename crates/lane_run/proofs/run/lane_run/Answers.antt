-- `run::lane_run` meets its contract: one test, and what is accepted is run.
use Prim.Native.Nat.{◌+◌}
use native.Mathlib.Omega.{arith}
use Rattle.render.specs.Lane.{Lent}
use Rattle.render.specs.Slices.{lent_lists}
use Rattle.share.specs.Share.{Buffers, buffers}
use Rattle.block.specs.Call.{Taken}
use Rattle.block.proofs.RefusalLaws.{by_parts, passed_by}
use Rattle.lane_run.specs.LaneCall.{lane_refusal}
use Rattle.lane_run.proofs.LaneLaws.{lane_taken, lane_turned_down, lane_shared}
use Rattle.lane_run.proofs.run.lane_run.Goals as goal
use Rattle.lane_run.proofs.run.lane_run.Goals.{Start}

-- ---- the test

-- what is lent to read, and to write
abbrev reads : Start → Lent
reads c = lent_lists c.args.lent.now

abbrev writes : Start → Buffers
writes c = let a = c.args in buffers a.output.now a.work.now a.pairs.now a.fm.now a.last.now a.dec.now

pub returns-in_err-check_either : goal.returns-in_err-check_either
returns-in_err-check_either c =
    let o = (goal.at.returns-in_err-check_either c).Start in
    lane_turned_down o.args.b o.args.r o.args.active o.args.lane 36 13 (reads o) (writes o) _ _ c.from_residual.ensures.1
    (by_parts (lane_refusal o.args.lane) c.call_numbers.ensures c.read_lengths.ensures c.write_lengths.ensures c.in_err-check_either.ensures)

-- ---- the run

-- the lane is below 64
pub overflow_add-lane : goal.overflow_add-lane
overflow_add-lane c =
    let o = (goal.at.overflow_add-lane c).Start in
    let t : Taken o.args.b o.args.r (o.args.lane + 1) (reads o) (writes o) =
    lane_taken o.args.b o.args.r o.args.active o.args.lane 36 13 (reads o) (writes o)
    (passed_by (lane_refusal o.args.lane) c.call_numbers.ensures c.read_lengths.ensures c.write_lengths.ensures c.in_ok-check_either.ensures) in
    omega (arith, t.actives, t.limits.lanes)

pub run_lanes-requires-clause-taken : goal.run_lanes-requires-clause-taken
run_lanes-requires-clause-taken c =
    let o = (goal.at.run_lanes-requires-clause-taken c).Start in
    lane_taken o.args.b o.args.r o.args.active o.args.lane 36 13 (reads o) (writes o)
    (passed_by (lane_refusal o.args.lane) c.call_numbers.ensures c.read_lengths.ensures c.write_lengths.ensures c.in_ok-check_either.ensures)

pub returns : goal.returns
returns c =
    let o = (goal.at.returns c).Start in
    lane_shared o.args.b o.args.r o.args.active o.args.lane 36 13 (reads o) (writes o)
    (passed_by (lane_refusal o.args.lane) c.call_numbers.ensures c.read_lengths.ensures c.write_lengths.ensures c.in_ok-check_either.ensures) c.run_lanes.ensures
