-- How steep the slots of a lane read in a sub-block of 32 host frames: `prepare` of mod.rs for one sub-block. Definitions only.
use Rattle.std.specs.Prelude.{ℕ, zero, suc, ◌+◌, ◌-◌, ◌*◌, min, Bool, true, false, ◌||◌, List, get_or, Float, Option as RustOption, Some, None, Result, Ok, Err}
use Rattle.std.proofs.Math.Option.{Option, some, none}
use Rattle.std.specs.Float.{nan}
use Rattle.floats.specs.F32.{◌⊕◌, ◌⊖◌, ◌⊗◌, ◌⊘◌, bits, 0f, 1f, 100f, ½f}
use Rattle.floats.specs.Steps.{◌>>=◌, when◌then◌else◌}
use Rattle.floats.specs.Sign.{abs_of}
use Rattle.lanes.specs.Lane.{min_of, max_of}
use Rattle.lanes.specs.Word.{two32}
use Rattle.limits.specs.declared.refusal.Refusal.{Refusal}
use Rattle.modes.specs.declared.facts.FmType.TheVariants.{ThruZero, Exponential, Linear}
use Rattle.modes.specs.declared.facts.Modulated.{Modulated}
use Rattle.modes.specs.declared.facts.Modulated.TheVariants.{Fm, PhaseDistortion, Am, Ring}
use Rattle.modes.specs.Table.{modulated_of, is_distortion}
use Rattle.slope.specs.Slope.{stretch_of}
use Rattle.voice.specs.PhaseRun.{whole, in_phase, fm_max_hz, fm_exponential}
use Rattle.limits.specs.Lengths.{sub_block}
use Rattle.controls.specs.Controls.{Controls}
use Rattle.spans.specs.declared.slopes.Bounds.{Bounds}
use Rattle.spans.specs.declared.slopes.Swing.{Swing}
use Rattle.spans.specs.declared.slopes.Span.{Span}

-- the host rows of sub-block s
abbrev pub rows_in : ℕ → ℕ → ℕ
rows_in frames s = min sub_block (frames - s * sub_block)

-- ---- the amount's bounds over k rows from `from` on, in percent

unfoldable pub widened : Bounds → Float → Bounds
widened b x = record { low = min_of b.low x; high = max_of b.high x }

-- +infinity, from which a minimum starts, and -infinity, from which a maximum does
abbrev pub plus_infinity : Float
plus_infinity = bits 0x7f80_0000

abbrev pub minus_infinity : Float
minus_infinity = bits 0xff80_0000

-- with modulation the base alone is never the amount
unfoldable pub bounds_to : Float → List Float → ℕ → ℕ → Bounds
bounds_to base xs from zero = record { low = plus_infinity; high = minus_infinity }
bounds_to base xs from (suc k) = widened (bounds_to base xs from k) (base ⊕ get_or xs (from + k) nan)

unfoldable pub bounds_of : Float → Option (List Float) → ℕ → ℕ → Bounds
bounds_of base none from k = record { low = base; high = base }
bounds_of base (some xs) from k = bounds_to base xs from k

-- ---- `source_span` of mod.rs: the source's peak and steepest step over k rows

unfoldable pub swung : Swing → Float → Swing
swung w x = record { peak = max_of w.peak (abs_of x); step = max_of w.step (abs_of (x ⊖ w.last)); last = x }

unfoldable pub swing_to : List Float → ℕ → ℕ → Swing
swing_to xs from zero = record { peak = 0f; step = 0f; last = get_or xs from nan }
swing_to xs from (suc k) = swung (swing_to xs from k) (get_or xs (from + k) nan)

-- ---- one slot

-- the larger of the slopes at both bounds; `prepare` divides by 100
unfoldable pub steepest_at : ℕ → Float → Bounds → Float
steepest_at mode curve b = do
  low ← stretch_of mode (b.low ⊘ 100f) curve
  high ← stretch_of mode (b.high ⊘ 100f) curve
  max_of low high

-- low.abs().max(high.abs()).min(100.0) / 100.0
unfoldable pub reach_of : Bounds → Float
reach_of b = do
  low ← abs_of b.low
  high ← abs_of b.high
  most ← max_of low high
  kept ← min_of most 100f
  kept ⊘ 100f

-- 4_294_967_296.0 / (rate * factor)
unfoldable pub words_per_hertz : ℕ → ℕ → Float
words_per_hertz rate factor = two32 ⊘ whole (rate * factor)

-- a * a * a * a * FM_MAX_HZ * x * words_per_hertz
unfoldable pub fm_slope : Float → Float → Float → Float
fm_slope a x perHertz = a ⊗ a ⊗ a ⊗ a ⊗ fm_max_hz ⊗ x ⊗ perHertz

-- amount * PD_MAX_CYCLES * (step / factor as f32) * 4_294_967_296.0
unfoldable pub pd_slope : Float → Float → ℕ → Float
pd_slope a step factor = a ⊗ ½f ⊗ (step ⊘ whole factor) ⊗ two32

-- += match modulated; AM and Ring move the value and not the read
abbrev pub added_by : Float → Swing → ℕ → Float → Float → Result (RustOption Modulated) Refusal → Float
added_by a w factor perHertz add (Ok (Some (Fm ThruZero))) = add ⊕ fm_slope a w.peak perHertz
added_by a w factor perHertz add (Ok (Some (Fm Exponential))) = add ⊕ fm_slope a (fm_exponential w.peak) perHertz
added_by a w factor perHertz add (Ok (Some (Fm Linear))) = add ⊕ fm_slope a w.peak perHertz
added_by a w factor perHertz add (Ok (Some PhaseDistortion)) = add ⊕ pd_slope a w.step factor
added_by a w factor perHertz add (Ok (Some Am)) = add
added_by a w factor perHertz add (Ok (Some Ring)) = add
added_by a w factor perHertz add (Ok None) = add
added_by a w factor perHertz add (Err _) = add

unfoldable pub added_of : ℕ → Float → Swing → ℕ → Float → Float → Float
added_of mode a w factor perHertz add = added_by a w factor perHertz add (modulated_of mode)

-- the slope that a slot with a source adds, in words a frame
unfoldable pub add_of : ℕ → Bounds → Option (List Float) → ℕ → ℕ → ℕ → Float → Float → Float
add_of mode b none from k factor perHertz add = add
add_of mode b (some xs) from k factor perHertz add = do
  a ← reach_of b
  added_of mode a (swing_to xs from k) factor perHertz add

-- one slot's share of a sub-block; slot 1's slope is also `inner`
unfoldable pub slot_span : Bool → ℕ → ℕ → Float → Float → Float → Option (List Float) → Option (List Float) → ℕ → ℕ → Span → Span
slot_span second mode factor perHertz curve base modulation source from k span =
    when in_phase mode
    then (do
      b ← bounds_of base modulation from k
      steepest ← steepest_at mode curve b
      add ← add_of mode b source from k factor perHertz span.add
      record { inner = when second then steepest else span.inner; stretch = span.stretch ⊗ steepest; add = add })
    else span

-- ---- both slots

unfoldable pub distorts : ℕ → ℕ → Bool
distorts mode0 mode1 = is_distortion mode0 || is_distortion mode1

unfoldable pub start_span : ℕ → ℕ → ℕ → Span
start_span mode0 mode1 factor = record { inner = 1f; stretch = when distorts mode0 mode1 then whole factor else 1f; add = 0f }

-- sub-block s of a lane: slot 1, then slot 0. `curve` is the steepest slope of the lent curve
unfoldable pub span_at : ℕ → ℕ → ℕ → ℕ → ℕ → Float → Controls → ℕ → Span
span_at mode0 mode1 factor frames rate curve c s = do
  perHertz ← words_per_hertz rate factor
  start ← start_span mode0 mode1 factor
  one ← slot_span true mode1 factor perHertz curve c.base1 c.mod1 c.source1 (s * sub_block) (rows_in frames s) start
  slot_span false mode0 factor perHertz curve c.base0 c.mod0 c.source0 (s * sub_block) (rows_in frames s) one
