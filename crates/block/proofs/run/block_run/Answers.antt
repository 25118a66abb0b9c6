-- `run::block_run` meets its contract: one test, and what is accepted is run.
use Rattle.render.specs.Lane.{Lent}
use Rattle.render.specs.Slices.{lent_lists}
use Rattle.share.specs.Share.{Buffers, buffers}
use Rattle.block.specs.Refusal.{block_refusal}
use Rattle.block.proofs.RefusalLaws.{by_parts, passed_by, accepted}
use Rattle.block.proofs.CallLaws.{meets_turned_down, meets_shared}
use Rattle.block.proofs.run.block_run.Goals as goal
use Rattle.block.proofs.run.block_run.Goals.{Start}

-- ---- the test

-- what is lent to read, and to write
abbrev reads : Start → Lent
reads c = lent_lists c.args.lent.now

abbrev writes : Start → Buffers
writes c = let a = c.args in buffers a.output.now a.work.now a.pairs.now a.fm.now a.last.now a.dec.now

pub returns-in_err-check : goal.returns-in_err-check
returns-in_err-check c =
    let o = (goal.at.returns-in_err-check c).Start in
    meets_turned_down o.args.b o.args.r o.args.active 36 13 (reads o) (writes o) _ _ c.from_residual.ensures.1
    (by_parts block_refusal c.call_numbers.ensures c.read_lengths.ensures c.write_lengths.ensures c.in_err-check.ensures)

-- ---- the run

pub run_lanes-requires-clause-taken : goal.run_lanes-requires-clause-taken
run_lanes-requires-clause-taken c =
    let o = (goal.at.run_lanes-requires-clause-taken c).Start in
    accepted o.args.b o.args.r o.args.active 36 13 (reads o) (writes o)
    (passed_by block_refusal c.call_numbers.ensures c.read_lengths.ensures c.write_lengths.ensures c.in_ok-check.ensures)

pub returns : goal.returns
returns c =
    let o = (goal.at.returns c).Start in
    meets_shared o.args.b o.args.r o.args.active 36 13 (reads o) (writes o)
    (passed_by block_refusal c.call_numbers.ensures c.read_lengths.ensures c.write_lengths.ensures c.in_ok-check.ensures) c.run_lanes.ensures
