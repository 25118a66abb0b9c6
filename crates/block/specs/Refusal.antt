-- When a block run is turned down: all eight lines of document 01's table, over its numbers and lengths. Definitions only.
use Rattle.std.specs.Prelude.{Bool, ◌||◌, [], ◌∷◌, ℕ}
use Rattle.limits.specs.Lines.{first_of, bad_modes, bad_factor, bad_lanes, bad_range, bad_rate, bad_counts}
use Rattle.limits.specs.Lengths.{host_length, rendered_length, span_length, curve_length, cycle_length, coefs_length, numbers_length, pairs_length, carry_length, last_length, state_length, shorter, short_controls}
use Rattle.block.specs.declared.refusal.CallNumbers.{CallNumbers}
use Rattle.block.specs.declared.refusal.ReadLengths.{ReadLengths}
use Rattle.block.specs.declared.refusal.WriteLengths.{WriteLengths}

-- 7: base, modulation and sources; the curve and the cycle; phase words and steps; `inner`
abbrev pub buffers_short : CallNumbers → ReadLengths → Bool
buffers_short call l =
    short_controls call.frames call.lanes l.controls || shorter curve_length l.curve || shorter cycle_length l.cycle
    || shorter (rendered_length call.frames call.factor call.lanes) l.words || shorter (rendered_length call.frames call.factor call.lanes) l.steps
    || shorter (span_length call.frames call.lanes) l.inner

-- and where they come on slices, coefficients and sine and arctangent numbers
abbrev pub reads_short : CallNumbers → ReadLengths → Bool
reads_short call l = buffers_short call l || shorter coefs_length l.coefs || shorter numbers_length l.numbers

-- 8: output, work, filter pairs, FM carry, `last`, decimator state
abbrev pub writes_short : CallNumbers → WriteLengths → Bool
writes_short call l =
    shorter (host_length call.frames call.lanes) l.output || shorter (rendered_length call.count call.factor call.lanes) l.work
    || shorter (pairs_length call.lanes) l.pairs || shorter (carry_length call.lanes) l.fm || shorter (last_length call.lanes) l.last
    || shorter (state_length call.lanes) l.dec

unfoldable pub block_refusal : CallNumbers → ReadLengths → WriteLengths → ℕ
block_refusal call reads writes =
    first_of
    ((bad_modes call.mode0 call.mode1, 1)
    ∷ (bad_factor call.factor, 2)
    ∷ (bad_lanes call.lanes call.active, 3)
    ∷ (bad_range call.frames call.first call.count, 4)
    ∷ (bad_rate call.rate, 5)
    ∷ (bad_counts call.count0 call.count1 call.count2, 6)
    ∷ (reads_short call reads, 7)
    ∷ (writes_short call writes, 8)
    ∷ [])
