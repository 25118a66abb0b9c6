-- When the calls about a single rendered frame are turned down: document 01's lines, for the arguments that they have. Definitions only.
use Rattle.std.specs.Prelude.{Bool, ◌||◌, [], ◌∷◌, ℕ}
use Rattle.limits.specs.declared.lengths.ControlLengths.{ControlLengths}
use Rattle.limits.specs.Lines.{first_of, bad_modes, bad_factor, bad_lane, bad_frame, bad_rate}
use Rattle.limits.specs.Lengths.{span_length, curve_length, pairs_length, carry_length, last_length, shorter, short_controls}
use Rattle.shaper.specs.declared.settings.Settings.{Settings}
use Rattle.shaper.specs.declared.settings.Range.{Range}

-- 1
abbrev pub mode_line : Settings → Bool
mode_line s = bad_modes s.slot0.mode s.slot1.mode

-- 4
abbrev pub frame_line : Settings → Range → ℕ → Bool
frame_line s r frame = bad_frame s.factor s.frames r.first r.count frame

-- 7 of a read list: base, modulation and sources, the curve, `inner`
abbrev pub reads_short : Settings → ControlLengths → ℕ → ℕ → Bool
reads_short s l curve inner =
    short_controls s.frames s.lanes l || shorter curve_length curve || shorter (span_length s.frames s.lanes) inner

-- 8 of a read list: `last` is only read, and document 01 lists it under Written
abbrev pub carry_short : ℕ → ℕ → ℕ → Bool
carry_short n fm last = shorter (carry_length n) fm || shorter (last_length n) last

-- 8 of a sample
abbrev pub pairs_short : ℕ → ℕ → ℕ → Bool
pairs_short n pairs last = shorter (pairs_length n) pairs || shorter (last_length n) last

unfoldable pub reads_refusal : Settings → ℕ → ℕ → ℕ → Range → ℕ → ControlLengths → ℕ → ℕ → ℕ → ℕ → ℕ
reads_refusal s rate active lane r frame l curve inner fm last =
    first_of
    ((mode_line s, 1)
    ∷ (bad_factor s.factor, 2)
    ∷ (bad_lane s.lanes active lane, 3)
    ∷ (frame_line s r frame, 4)
    ∷ (bad_rate rate, 5)
    ∷ (reads_short s l curve inner, 7)
    ∷ (carry_short s.lanes fm last, 8)
    ∷ [])

-- no rate, curve or span among its arguments
unfoldable pub sample_refusal : Settings → ℕ → ℕ → Range → ℕ → ControlLengths → ℕ → ℕ → ℕ
sample_refusal s active lane r frame l pairs last =
    first_of
    ((mode_line s, 1)
    ∷ (bad_factor s.factor, 2)
    ∷ (bad_lane s.lanes active lane, 3)
    ∷ (frame_line s r frame, 4)
    ∷ (short_controls s.frames s.lanes l, 7)
    ∷ (pairs_short s.lanes pairs last, 8)
    ∷ [])
