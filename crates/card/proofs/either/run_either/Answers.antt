-- `either::run_either` meets its contract: one test, and what is accepted is run.
use mathlib.Core.Path.{◌≡◌, refl}
use Prim.Native.Nat.{ℕ}
use lib.ListN.{length}
use Rattle.std.specs.Prelude.{Ok}
use Rattle.limits.specs.Refusals.{number_of}
use Rattle.halfband.specs.Floats.{designs_of}
use Rattle.shaper.specs.declared.settings.Range.{Range}
use Rattle.render.specs.declared.state.BlockSettings.{BlockSettings}
use Rattle.render.specs.Lane.{Lent}
use Rattle.render.specs.Slices.{lent_lists}
use Rattle.share.specs.Share.{Buffers, buffers}
use Rattle.block.specs.declared.refusal.CallNumbers.{CallNumbers}
use Rattle.block.specs.declared.refusal.ReadLengths.{ReadLengths}
use Rattle.block.specs.declared.refusal.WriteLengths.{WriteLengths}
use Rattle.block.specs.Call.{call_numbers, read_lengths, write_lengths}
use Rattle.block.specs.Numbers.{settings_of, range_of}
use Rattle.block.proofs.RefusalLaws.{passed, by_parts, passed_by, whole_slices}
use Rattle.block.proofs.SharedLaws.{shared_by}
use Rattle.lane_run.specs.Either.{either_refusal}
use Rattle.lane_run.proofs.LaneLaws.{either_passed, either_active, either_taken, either_turned_down, either_shared, taken_by, shared_at}
use Rattle.card.proofs.either.run_either.Goals as goal
use Rattle.card.proofs.either.run_either.Goals.{Start}

-- ---- the test

-- the settings and the range; what is lent to read, and to write
abbrev settings : Start → BlockSettings
settings c =
    let a = c.args in
    let k = a.call in
    settings_of k.mode0 k.mode1 a.character0 a.character1 k.factor k.lanes k.frames k.rate k.count0 k.count1 k.count2 a.coefs.now a.numbers.now

abbrev range : Start → Range
range c = range_of c.args.call.first c.args.call.count

abbrev reads : Start → Lent
reads c = lent_lists c.args.lent.now

abbrev writes : Start → Buffers
writes c = let a = c.args in buffers a.output.now a.work.now a.pairs.now a.fm.now a.last.now a.dec.now

abbrev numbers : Start → CallNumbers
numbers c = call_numbers (settings c) (range c) c.args.call.active

abbrev lengths : Start → ReadLengths
lengths c = read_lengths (length c.args.coefs.now) (length c.args.numbers.now) (reads c)

abbrev number : Start → ℕ
number c = either_refusal c.args.lane (numbers c) (lengths c) (write_lengths (writes c))

-- the settings have the numbers that came with the call
own_numbers : (c : Start) → c.args.call ≡ numbers c
unfolding settings_of designs_of
own_numbers c = refl

pub returns-in_err-check_either : goal.returns-in_err-check_either
returns-in_err-check_either c =
    let o = (goal.at.returns-in_err-check_either c).Start in
    either_turned_down (settings o) (range o) o.args.call.active (length o.args.coefs.now) (length o.args.numbers.now) (reads o) (writes o) o.args.lane _ _
    c.from_residual.ensures.1
    (by_parts (either_refusal o.args.lane) (own_numbers o) c.read_lengths.ensures c.write_lengths.ensures c.in_err-check_either.ensures)

-- ---- the run

-- it was accepted
none : (c : Start) {l : ReadLengths} {w : WriteLengths} → l ≡ lengths c → w ≡ write_lengths (writes c)
    → number_of {A = Unit {0}} (Ok tt) ≡ either_refusal c.args.lane c.args.call l w → number c ≡ 0
none c read written h = passed_by (either_refusal c.args.lane) (own_numbers c) read written h

pub settings_of-b-requires : goal.settings_of-b-requires
settings_of-b-requires c =
    let o = (goal.at.settings_of-b-requires c).Start in
    let ok = none o c.read_lengths.ensures c.write_lengths.ensures c.in_ok-check_either.ensures in
    let whole = whole_slices (numbers o) (lengths o) (passed (numbers o) (lengths o) _ (either_passed (numbers o) _ _ o.args.lane ok)).read in
    record { coefs_whole = whole.0; numbers_whole = whole.1 }

pub interval_of-asked-requires : goal.interval_of-asked-requires
interval_of-asked-requires c =
    let o = (goal.at.interval_of-asked-requires c).Start in
    either_active (settings o) (range o) o.args.call.active (length o.args.coefs.now) (length o.args.numbers.now) (reads o) (writes o) o.args.lane
    (none o c.read_lengths.ensures c.write_lengths.ensures c.in_ok-check_either.ensures)

pub run_lanes-requires : goal.run_lanes-requires
run_lanes-requires c =
    let o = (goal.at.run_lanes-requires c).Start in
    let t = taken_by c.settings_of-b.ensures c.interval_of-asked.ensures
    (either_taken (settings o) (range o) o.args.call.active (length o.args.coefs.now) (length o.args.numbers.now) (reads o) (writes o) o.args.lane
    (none o c.read_lengths.ensures c.write_lengths.ensures c.in_ok-check_either.ensures)) in
    record { ordered = t.0; taken = t.1 }

pub returns : goal.returns
returns c =
    let o = (goal.at.returns c).Start in
    either_shared (settings o) (range o) o.args.call.active (length o.args.coefs.now) (length o.args.numbers.now) (reads o) (writes o) o.args.lane
    (none o c.read_lengths.ensures c.write_lengths.ensures c.in_ok-check_either.ensures)
    (shared_at c.interval_of-asked.ensures (shared_by c.settings_of-b.ensures c.run_lanes.ensures))
