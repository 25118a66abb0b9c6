-- `blocks::prepare` meets its contract.
use mathlib.Core.Path.{◌≡◌, sym}
use native.Mathlib.Omega.{arith}
use lib.ListN.{length-take}
use lib.Ieee.{Float}
use Rattle.limits.specs.Refusals.{number_of, answer_of}
use Rattle.controls.specs.Slices.{control_lists}
use Rattle.spans.specs.Refusal.{prepare_refusal}
use Rattle.spans.specs.Prepared.{spans, lengths_of}
use Rattle.spans.proofs.RefusalLaws.{accepted}
use Rattle.spans.proofs.PreparedLaws.{turned_down_lem, done}
use Rattle.spans.proofs.blocks.prepare.Goals as goal
use Rattle.spans.proofs.blocks.prepare.Goals.{In_ok-check_prepare}

passed : (c : In_ok-check_prepare)
    → let b = c.args.block in
    prepare_refusal b.mode0 b.mode1 b.factor b.lanes b.active b.frames b.rate
    (lengths_of (control_lists c.args.controls.now) c.args.curve.now (spans c.args.inner.now c.args.stretch.now c.args.add.now))
    ≡ 0
unfolding number_of
passed c = sym (rw c.lengths.ensures at c.in_ok-check_prepare.ensures)

pub returns-in_err-check_prepare : goal.returns-in_err-check_prepare
returns-in_err-check_prepare c =
    turned_down_lem _ _ _ _ _ _ _ _ _ _ _ _ c.from_residual.ensures.1 (rw c.lengths.ensures at c.in_err-check_prepare.ensures)

pub slice_bounds-values-end : goal.slice_bounds-values-end
slice_bounds-values-end c =
    let p = accepted _ _ _ _ _ _ _ _ (passed (goal.at.slice_bounds-values-end c).In_ok-check_prepare) in omega (arith, p.curves, length-take {A = Float})

pub invariant_of-curve : goal.invariant_of-curve
invariant_of-curve c =
    let p = accepted _ _ _ _ _ _ _ _ (passed (goal.at.invariant_of-curve c).In_ok-check_prepare) in
    record { whole = omega (arith, p.curves, length-take {A = Float}) }

pub invariant_of-prepared : goal.invariant_of-prepared
invariant_of-prepared c =
    let p = accepted _ _ _ _ _ _ _ _ (passed (goal.at.invariant_of-prepared c).In_ok-check_prepare) in
    record { rendered = p.rendered; rates = p.rates; few = p.block }

pub prepare_lanes-requires : goal.prepare_lanes-requires
prepare_lanes-requires c =
    let p = accepted _ _ _ _ _ _ _ _ (passed (goal.at.prepare_lanes-requires c).In_ok-check_prepare) in
    record { takes = rw c.spans_of.ensures p.takes; active_le_lanes = p.lanes }

pub returns : goal.returns
unfolding answer_of
returns c =
    let did = c.prepare_lanes in
    done _ _ _ _ _ _ _ _ _ _ (passed (goal.at.returns c).In_ok-check_prepare) c.spans_of.ensures c.steepest.ensures did.ensures
    did.auto.inner did.auto.stretch did.auto.add
