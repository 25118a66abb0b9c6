-- `PhaseRun::stretch`: how much faster than its phase a lane reads, over rendered frames of a range. Definitions only.
use Rattle.std.specs.Prelude.{◌≡◌, cond, ◌||◌, List, ℕ, zero, suc, ◌+◌, ◌-◌, ◌/◌, max, eqb, length, get_or, Float}
use Rattle.std.specs.Float.Ieee as Ieee
use Rattle.std.specs.Float.{nan}
use Rattle.floats.specs.F32.{◌⊕◌, ◌⊘◌, 0f, 1f}
use Rattle.floats.specs.Steps.{◌>>=◌, when◌then◌else◌}
use Rattle.lanes.specs.Lane.{max_of}
use Rattle.grid.specs.Cells.{column}
use Rattle.voice.specs.PhaseRun.{whole}
use Rattle.limits.specs.Lengths.{sub_block, spans_of}
use Rattle.limits.specs.declared.answers.Valued.{Valued}
use Rattle.spans.specs.Refusal.{stretch_refusal}

-- fold(start, max) over k rows from `from` on
unfoldable pub most_to : Float → List Float → ℕ → ℕ → Float
most_to start xs from zero = start
most_to start xs from (suc k) = max_of (most_to start xs from k) (get_or xs (from + k) nan)

-- the sub-block that a rendered frame of a range falls in
abbrev pub span_of : ℕ → ℕ → ℕ → ℕ
span_of factor first frame = (first + frame / factor) / sub_block

-- if added <= 0.0 || increment == 0 { return steepest }
unfoldable pub faster_by : Float → Float → ℕ → Float
faster_by steepest added step =
    when Ieee.le added 0f || eqb step 0 then steepest else max_of steepest ((whole step ⊕ added) ⊘ whole step)

-- `stretch` and `add` are the lane's columns; asked for none, it looks at its first frame
unfoldable pub faster_of : ℕ → ℕ → List Float → List Float → ℕ → ℕ → ℕ → Float
faster_of factor first stretch add askedFirst asked step = do
  from ← span_of factor first askedFirst
  to ← span_of factor first (askedFirst + max asked 1 - 1)
  steepest ← most_to 1f stretch from (to + 1 - from)
  added ← most_to 0f add from (to + 1 - from)
  faster_by steepest added step

-- what the call promises, with f block frames: it writes nothing
pub record Faster (factor n active lane f first count askedFirst asked step : ℕ) (stretch add : List Float) (a : Valued) : Type 0 where
  pub number : a.number ≡ stretch_refusal factor n active lane f first count askedFirst asked (length stretch) (length add)
  pub frames : a.frames ≡ cond (eqb a.number 0) count 0
  pub refused : (a.number ≡ 0 → ⊥) → a.value ≡ 0f
  pub value :
      a.number ≡ 0
      → a.value ≡ faster_of factor first (column nan n lane (spans_of f) stretch) (column nan n lane (spans_of f) add) askedFirst asked step
