-- When `prepare` and `PhaseRun::stretch` are turned down: document 01's lines, for the arguments that they have. Definitions only.
use Rattle.std.specs.Prelude.{Bool, ◌||◌, [], ◌∷◌, ℕ}
use Rattle.limits.specs.Lines.{first_of, bad_modes, bad_factor, bad_lanes, bad_lane, bad_frames, bad_asked, bad_rate}
use Rattle.limits.specs.Lengths.{span_length, curve_length, shorter, short_controls}
use Rattle.spans.specs.declared.refusal.PrepareLengths.{PrepareLengths}

-- 7: base, modulation and sources of both slots, and the curve
abbrev pub prepare_reads_short : ℕ → ℕ → PrepareLengths → Bool
prepare_reads_short frames n l = short_controls frames n l.controls || shorter curve_length l.curve

-- 8: the spans, which are written here
abbrev pub prepare_writes_short : ℕ → ℕ → PrepareLengths → Bool
prepare_writes_short frames n l =
    shorter (span_length frames n) l.inner || shorter (span_length frames n) l.stretch || shorter (span_length frames n) l.add

unfoldable pub prepare_refusal : ℕ → ℕ → ℕ → ℕ → ℕ → ℕ → ℕ → PrepareLengths → ℕ
prepare_refusal mode0 mode1 factor n active frames rate l =
    first_of
    ((bad_modes mode0 mode1, 1)
    ∷ (bad_factor factor, 2)
    ∷ (bad_lanes n active, 3)
    ∷ (bad_frames frames, 4)
    ∷ (bad_rate rate, 5)
    ∷ (prepare_reads_short frames n l, 7)
    ∷ (prepare_writes_short frames n l, 8)
    ∷ [])

-- 7: the spans, which are read here
abbrev pub stretch_reads_short : ℕ → ℕ → ℕ → ℕ → Bool
stretch_reads_short frames n stretch add = shorter (span_length frames n) stretch || shorter (span_length frames n) add

unfoldable pub stretch_refusal : ℕ → ℕ → ℕ → ℕ → ℕ → ℕ → ℕ → ℕ → ℕ → ℕ → ℕ → ℕ
stretch_refusal factor n active lane frames first count from asked stretch add =
    first_of
    ((bad_factor factor, 2)
    ∷ (bad_lane n active lane, 3)
    ∷ (bad_asked factor frames first count from asked, 4)
    ∷ (stretch_reads_short frames n stretch add, 7)
    ∷ [])
