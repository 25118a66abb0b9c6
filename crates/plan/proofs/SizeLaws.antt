-- A plan's sizes are the least that a block run accepts. Assumes nothing.
use mathlib.Core.Path.{◌≡◌, refl}
use mathlib.Core.Bool.{Bool, true, false, cond, ◌||◌}
use Prim.Native.Nat.{◌≤◌}
use native.Mathlib.Omega.{arith}
use Rattle.limits.specs.Lines.{first_of, bad_factor, bad_lanes, bad_range, bad_counts}
use Rattle.limits.specs.Lengths.{host_length, rendered_length, pairs_length, carry_length, last_length, state_length, shorter}
use Rattle.limits.proofs.LineLaws.{good_frames, in_range, or_false}
use Rattle.limits.proofs.LengthLaws.{long_enough, not_short}
use Rattle.block.specs.declared.refusal.CallNumbers.{CallNumbers}
use Rattle.block.specs.declared.refusal.ReadLengths.{ReadLengths}
use Rattle.block.specs.declared.refusal.WriteLengths.{WriteLengths}
use Rattle.block.specs.Refusal.{writes_short, block_refusal}
use Rattle.plan.specs.declared.needs.BlockNumbers.{BlockNumbers}
use Rattle.plan.specs.Plan.{plan_refusal, needed}
use Rattle.plan.specs.OneRange.{OneRange}
use Rattle.plan.specs.Sizes.{AsPlanned, ByThese, Least}
use Rattle.plan.proofs.Passed.{Passed, passed}

module _ (b : BlockNumbers) (ok : plan_refusal b ≡ 0) where
  module _ (call : CallNumbers) (reads : ReadLengths) (writes : WriteLengths) (is : OneRange b call) (only : ByThese call reads writes) where
    lines : Passed b
    lines = passed b ok

    factors : bad_factor call.factor ≡ false
    factors = rw is.factor lines.line2

    lanes : bad_lanes call.lanes call.active ≡ false
    lanes = rw (is.lanes, is.active) lines.line3

    ranges : bad_range call.frames call.first call.count ≡ false
    ranges = rw (is.frames, is.first, is.count) (in_range b.frames 0 b.frames (good_frames _ lines.line4) (omega arith))

    counts : bad_counts call.count0 call.count1 call.count2 ≡ false
    counts = rw (is.count0, is.count1, is.count2) lines.line6

    -- no line above 8 holds
    by_line8 : (t : Bool) → writes_short call writes ≡ t → block_refusal call reads writes ≡ cond t 8 0
    unfolding block_refusal first_of
    by_line8 t e = rw (only.modes, factors, lanes, ranges, only.rate, counts, only.read, e)

    -- and line 8 holds just where the plan's sizes are not held
    all_held : writes_short call writes ≡ false → AsPlanned (needed b) writes
    unfolding needed
    all_held e =
        let t : (shorter (host_length b.frames b.lanes) writes.output || shorter (rendered_length b.frames b.factor b.lanes) writes.work
        || shorter (pairs_length b.lanes) writes.pairs || shorter (carry_length b.lanes) writes.fm || shorter (last_length b.lanes) writes.last
        || shorter (state_length b.lanes) writes.dec) ≡ false = rw (is.frames, is.lanes, is.factor, is.count) at e in
        let x5 = or_false _ (shorter (state_length b.lanes) writes.dec) t in
        let x4 = or_false _ (shorter (last_length b.lanes) writes.last) x5.0 in
        let x3 = or_false _ (shorter (carry_length b.lanes) writes.fm) x4.0 in
        let x2 = or_false _ (shorter (pairs_length b.lanes) writes.pairs) x3.0 in
        let x1 = or_false (shorter (host_length b.frames b.lanes) writes.output) (shorter (rendered_length b.frames b.factor b.lanes) writes.work) x2.0 in
        let work = long_enough (rendered_length b.frames b.factor b.lanes) writes.work x1.1 in
        let pairs = long_enough (pairs_length b.lanes) writes.pairs x2.1 in
        let fm = long_enough (carry_length b.lanes) writes.fm x3.1 in
        let last = long_enough (last_length b.lanes) writes.last x4.1 in
        let state = long_enough (state_length b.lanes) writes.dec x5.1 in
        record {
          work = omega (arith, work);
          state = omega (arith, state);
          pairs = omega (arith, pairs);
          fm = omega (arith, fm);
          last = omega (arith, last);
        }

    long : AsPlanned (needed b) writes → writes_short call writes ≡ false
    unfolding needed
    long h =
        let output : host_length b.frames b.lanes ≤ writes.output = (rw (is.frames, is.lanes) at only).output in
        rw (
          is.frames,
          is.lanes,
          is.factor,
          is.count,
          not_short (host_length b.frames b.lanes) writes.output output,
          not_short (rendered_length b.frames b.factor b.lanes) writes.work (omega (arith, h.work)),
          not_short (pairs_length b.lanes) writes.pairs (omega (arith, h.pairs)),
          not_short (carry_length b.lanes) writes.fm (omega (arith, h.fm)),
          not_short (last_length b.lanes) writes.last (omega (arith, h.last)),
          not_short (state_length b.lanes) writes.dec (omega (arith, h.state)),
        )

    short : (AsPlanned (needed b) writes → ⊥) → block_refusal call reads writes ≡ 8
    short bad = go (writes_short call writes) refl
      where
        go : (t : Bool) → writes_short call writes ≡ t → block_refusal call reads writes ≡ 8
        go true e = by_line8 true e
        go false e = absurd (bad (all_held e))

  pub sizes_least : Least b (needed b)
  sizes_least =
      record {
        enough = λ call reads writes is only held. by_line8 call reads writes is only false (long call reads writes is only held);
        less = short;
      }
