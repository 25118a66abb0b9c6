-- The laws of a block run's refusals: an accepted one passes all eight lines of the table, and so has what its lanes' shares ask for.
-- Assumes nothing.
use mathlib.Core.Path.{◌≡◌, refl, sym, ◌∙◌}
use mathlib.Core.Bool.{Bool, false, ◌||◌}
use mathlib.Core.List.{[], ◌∷◌}
use Prim.Native.Nat.{ℕ, ◌≤◌}
use native.Mathlib.Omega.{arith}
use lib.ListN.{length}
use Rattle.std.specs.Prelude.{Ok}
use Rattle.limits.specs.declared.refusal.Refusal.{Refusal}
use Rattle.limits.specs.Refusals.{number_of, line_of, numbered}
use Rattle.limits.specs.Lines.{first_of, number_lines, bad_modes, bad_factor, bad_lanes, bad_range, bad_rate, bad_counts}
use Rattle.limits.specs.Lengths.{host_length, rendered_length, span_length, curve_length, cycle_length, coefs_length, numbers_length, pairs_length, carry_length, last_length, state_length, shorter}
use Rattle.limits.proofs.LineLaws.{then_lengths, whole_table, no_line, numbers_passed, or_false, small_factor, good_lanes, good_range, good_rate, good_counts}
use Rattle.limits.proofs.LengthLaws.{long_enough, not_short, controls_held}
use Rattle.halfband.specs.Floats.{design_of}
use Rattle.halfband.proofs.RefusalLaws.{good_factor, three}
use Rattle.shaper.specs.declared.settings.Range.{Range}
use Rattle.render.specs.declared.state.BlockSettings.{BlockSettings}
use Rattle.render.specs.Lane.{Lent}
use Rattle.share.specs.Share.{Buffers}
use Rattle.render.specs.Promises.{Readable}
use Rattle.share.specs.Promises.{Writable}
use Rattle.block.specs.declared.refusal.CallNumbers.{CallNumbers}
use Rattle.block.specs.declared.refusal.ReadLengths.{ReadLengths}
use Rattle.block.specs.declared.refusal.WriteLengths.{WriteLengths}
use Rattle.block.specs.Refusal.{buffers_short, reads_short, writes_short, block_refusal}
use Rattle.block.specs.Call.{Call, call_numbers, read_lengths, write_lengths, refusal_of, lanes_of, Taken}

-- ---- the lines

pub record Passed (call : CallNumbers) (reads : ReadLengths) (writes : WriteLengths) : Type 0 where
  pub modes : bad_modes call.mode0 call.mode1 ≡ false
  pub factors : bad_factor call.factor ≡ false
  pub lanes : bad_lanes call.lanes call.active ≡ false
  pub ranges : bad_range call.frames call.first call.count ≡ false
  pub rates : bad_rate call.rate ≡ false
  pub counts : bad_counts call.count0 call.count1 call.count2 ≡ false
  pub read : reads_short call reads ≡ false
  pub written : writes_short call writes ≡ false

module _ (call : CallNumbers) (reads : ReadLengths) (writes : WriteLengths) where
  pub passed : block_refusal call reads writes ≡ 0 → Passed call reads writes
  unfolding block_refusal first_of
  passed e =
      let p =
      no_line (bad_modes call.mode0 call.mode1) (bad_factor call.factor) (bad_lanes call.lanes call.active) (bad_range call.frames call.first call.count) (bad_rate call.rate) (bad_counts call.count0 call.count1 call.count2)
      (reads_short call reads) (writes_short call writes) e in
      record {
        modes = p.numbers.modes;
        factors = p.numbers.factor;
        lanes = p.numbers.lanes;
        ranges = p.numbers.frames;
        rates = p.numbers.rate;
        counts = p.numbers.counts;
        read = p.read;
        written = p.written;
      }

  pub table_is : block_refusal call reads writes
      ≡ then_lengths (first_of (number_lines (bad_modes call.mode0 call.mode1) (bad_factor call.factor) (bad_lanes call.lanes call.active) (bad_range call.frames call.first call.count) (bad_rate call.rate) (bad_counts call.count0 call.count1 call.count2)))
      (reads_short call reads) (writes_short call writes)
  unfolding block_refusal first_of
  table_is =
      whole_table (bad_modes call.mode0 call.mode1) (bad_factor call.factor) (bad_lanes call.lanes call.active) (bad_range call.frames call.first call.count) (bad_rate call.rate) (bad_counts call.count0 call.count1 call.count2)
      (reads_short call reads) (writes_short call writes)

  pub passes : Passed call reads writes → block_refusal call reads writes ≡ 0
  unfolding block_refusal first_of
  passes p = rw (p.modes, p.factors, p.lanes, p.ranges, p.rates, p.counts, p.read, p.written)

-- the number that a table gives for what was gathered: the run's, or a lane's
pub by_parts : (table : CallNumbers → ReadLengths → WriteLengths → ℕ)
    {call call' : CallNumbers} {reads reads' : ReadLengths} {writes writes' : WriteLengths} {number : ℕ}
    → call ≡ call' → reads ≡ reads' → writes ≡ writes' → number ≡ table call reads writes → number ≡ table call' reads' writes'
by_parts table numbered read written h = h ∙ (λ j. table (numbered j) (read j) (written j))

pub passed_by : (table : CallNumbers → ReadLengths → WriteLengths → ℕ)
    {call call' : CallNumbers} {reads reads' : ReadLengths} {writes writes' : WriteLengths}
    → call ≡ call' → reads ≡ reads' → writes ≡ writes' → number_of {A = Unit {0}} (Ok tt) ≡ table call reads writes → table call' reads' writes' ≡ 0
unfolding number_of
passed_by table numbered read written h = sym (by_parts table numbered read written h)

-- ---- as the code goes through the table

-- what lines 7 and 8 are asked for
pub small_numbers : (call : CallNumbers)
    → number_of {A = Unit {0}} (Ok tt)
    ≡ first_of (number_lines (bad_modes call.mode0 call.mode1) (bad_factor call.factor) (bad_lanes call.lanes call.active) (bad_range call.frames call.first call.count) (bad_rate call.rate) (bad_counts call.count0 call.count1 call.count2))
    → (call.frames ≤ 4096) × (call.factor ≤ 8) × (call.lanes ≤ 64) × (call.count ≤ 4096)
unfolding number_of
small_numbers call h =
    let p = numbers_passed _ _ _ _ _ _ (sym h) in
    let range = good_range _ _ _ p.frames in
    (range.0, (small_factor _ p.factor).1, (good_lanes _ _ p.lanes).1, omega (arith, range.0, range.1))

-- and their numbers
pub last_lines : (g h : Bool) → first_of (numbered ((g, Refusal.ShortRead) ∷ (h, Refusal.ShortWrite) ∷ [])) ≡ then_lengths 0 g h
unfolding first_of line_of
last_lines g h = refl

-- ---- line 7, of coefficients and numbers on slices

module _ (call : CallNumbers) (l : ReadLengths) (e : reads_short call l ≡ false) where
  most : ((buffers_short call l || shorter coefs_length l.coefs) ≡ false) × (shorter numbers_length l.numbers ≡ false)
  most = or_false (buffers_short call l || shorter coefs_length l.coefs) (shorter numbers_length l.numbers) e

  others : (buffers_short call l ≡ false) × (shorter coefs_length l.coefs ≡ false)
  others = or_false (buffers_short call l) (shorter coefs_length l.coefs) most.0

  pub buffers_long : buffers_short call l ≡ false
  buffers_long = others.0

  pub whole_slices : (coefs_length ≤ l.coefs) × (numbers_length ≤ l.numbers)
  whole_slices = (long_enough coefs_length l.coefs others.1, long_enough numbers_length l.numbers most.1)

-- ---- an accepted block run

module _ (b : BlockSettings) (r : Range) (active : ℕ) where
  abbrev call : CallNumbers
  call = call_numbers b r active

  abbrev frames : ℕ
  frames = b.shaper.frames

  abbrev n : ℕ
  n = b.shaper.lanes

  pub readable : (coefs numbers : ℕ) (l : Lent) → reads_short call (read_lengths coefs numbers l) ≡ false → Readable b.shaper l
  readable coefs numbers l e =
      let rows : ℕ = rendered_length frames b.shaper.factor n in
      let x5 = or_false _ (shorter (span_length frames n) (length l.inner)) (buffers_long call (read_lengths coefs numbers l) e) in
      let x4 = or_false _ (shorter rows (length l.steps)) x5.0 in
      let x3 = or_false _ (shorter rows (length l.words)) x4.0 in
      let x2 = or_false _ (shorter cycle_length (length l.cycle)) x3.0 in
      let x1 = or_false _ (shorter curve_length (length l.curve)) x2.0 in
      record {
        controls = controls_held frames n _ x1.0;
        curve = long_enough _ _ x1.1;
        cycle = long_enough _ _ x2.1;
        words = long_enough _ _ x3.1;
        steps = long_enough _ _ x4.1;
        inner = long_enough _ _ x5.1;
      }

  module _ (w : Buffers) where
    pub writable : writes_short call (write_lengths w) ≡ false → Writable b.shaper r w
    writable e =
        let x5 = or_false _ (shorter (state_length n) (length w.dec)) e in
        let x4 = or_false _ (shorter (last_length n) (length w.last)) x5.0 in
        let x3 = or_false _ (shorter (carry_length n) (length w.fm)) x4.0 in
        let x2 = or_false _ (shorter (pairs_length n) (length w.pairs)) x3.0 in
        let x1 = or_false (shorter (host_length frames n) (length w.output)) (shorter (rendered_length r.count b.shaper.factor n) (length w.work)) x2.0 in
        record {
          output = long_enough _ _ x1.0;
          work = long_enough _ _ x1.1;
          pairs = long_enough _ _ x2.1;
          fm = long_enough _ _ x3.1;
          last = long_enough _ _ x4.1;
          dec = long_enough _ _ x5.1;
        }

    pub all_long : Writable b.shaper r w → writes_short call (write_lengths w) ≡ false
    all_long h =
        rw (
          not_short (host_length frames n) (length w.output) h.output,
          not_short (rendered_length r.count b.shaper.factor n) (length w.work) h.work,
          not_short (pairs_length n) (length w.pairs) h.pairs,
          not_short (carry_length n) (length w.fm) h.fm,
          not_short (last_length n) (length w.last) h.last,
          not_short (state_length n) (length w.dec) h.dec,
        )

  module _ (coefs numbers : ℕ) (l : Lent) (w : Buffers) where
    pub taken_of : Passed call (read_lengths coefs numbers l) (write_lengths w) → Taken b r active l w
    taken_of p =
        let lanes = good_lanes n active p.lanes in
        let range = good_range frames r.first r.count p.ranges in
        let small = small_factor b.shaper.factor p.factors in
        let power = good_factor b.shaper.factor p.factors in
        let counts = good_counts call.count0 call.count1 call.count2 p.counts in
        record {
          limits = record {
            lanes = lanes.1;
            frames = range.0;
            range = range.1;
            factor_least = small.0;
            factor_most = small.1;
            stages = power.0;
            doubled = power.1;
            rate = (good_rate b.rate p.rates).1;
            counts = three (λ (j : ℕ). (design_of b.designs j).count ≤ 12) counts.0 counts.1 counts.2;
          };
          actives = lanes.2;
          readable = readable coefs numbers l p.read;
          writable = writable w p.written;
        }

    pub accepted : block_refusal call (read_lengths coefs numbers l) (write_lengths w) ≡ 0 → Taken b r active l w
    accepted e = taken_of (passed call _ _ e)

-- of a call
module _ (c : Call) (ok : refusal_of c ≡ 0) where
  pub call_passed : Passed (call_numbers c.settings c.range c.active) (read_lengths c.coefs c.numbers c.lent) (write_lengths c.before)
  unfolding refusal_of
  call_passed = passed (call_numbers c.settings c.range c.active) _ _ ok

  pub call_taken : Taken c.settings c.range c.active c.lent c.before
  call_taken = taken_of c.settings c.range c.active c.coefs c.numbers _ _ call_passed

  pub call_lanes : 1 ≤ lanes_of c
  call_lanes = (good_lanes (lanes_of c) c.active call_passed.lanes).0
