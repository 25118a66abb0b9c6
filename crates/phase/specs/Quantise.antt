-- `quantise` of phase.rs, in its steps. `a` is the amount, 0 to 1, h the crossfade's half width, in cycles. Definitions only.
use Rattle.std.specs.Prelude.{ℕ, Float}
use Rattle.floats.specs.F32.{◌⊕◌, ◌⊖◌, ◌⊗◌, ◌⊘◌, bits, 0f, 1f, 2f, ½f}
use Rattle.floats.specs.Steps.{◌>>=◌}
use Rattle.floats.specs.Floor.{floor_of}
use Rattle.floats.specs.Sign.{abs_of}
use Rattle.lanes.specs.Lane.{mul_add, min_of}
use Rattle.lanes.specs.Maths.{above_of, pick_of, clamp_of, smoothstep_of}
use Rattle.lanes.specs.Word.{signed_of, to_word}
use Rattle.reads.specs.declared.lists.ReadList.{ReadList}
use Rattle.phase.specs.Power.{step_count}
use Rattle.reads.specs.Reads.{push_pair}
use Rattle.phase.specs.declared.quantise.Steps.{Steps}
use Rattle.phase.specs.declared.quantise.Line.{Line}
use Rattle.phase.specs.declared.quantise.Edge.{Edge}

-- 0.499: of a step, the most that a crossfade takes either side of an edge
abbrev pub most_of_step : Float
most_of_step = bits 0x3eff_7cee

-- 1e-4: taken off the count of steps, so that the last step of a whole count is the one that ends there
abbrev pub near_whole : Float
near_whole = bits 0x38d1_b717

-- f32::MAX
abbrev pub f32_max : Float
f32_max = bits 0x7f7f_ffff

-- how many steps a cycle has, how long one is, how far both reads go toward the running phase, and the crossfade's half width
unfoldable pub steps_of : Float → Float → Steps
steps_of a h = do
  steps ← step_count a
  step ← 1f ⊘ steps
  toward ← clamp_of (h ⊗ 2f ⊗ steps ⊖ 1f) 0f 1f
  h' ← min_of h (step ⊗ most_of_step)
  record { steps = steps; step = step; toward = toward; half = h' }

-- in steps: the last step's start, and k, the line of the grid that is nearest x
unfoldable pub line_of : Float → Float → Line
line_of steps x = do
  last ← floor_of (steps ⊖ near_whole)
  near ← floor_of (x ⊕ ½f)
  kept ← clamp_of near 1f f32_max
  k ← min_of kept last
  record { k = k; last = last }

-- the nearer edge, a line of the grid or the cycle's end: the distance from it, the reads to its left and its right, and the running phase
-- half a step behind, toward which they move
unfoldable pub edge_of : Float → Float → ℕ → Edge
edge_of steps step word = do
  t ← signed_of word
  whole ← floor_of t
  u ← t ⊖ whole
  x ← u ⊗ steps
  line ← line_of steps x
  grid ← (x ⊖ line.k) ⊗ step
  far ← abs_of grid
  end ← abs_of t
  at_end ← above_of (far ⊖ end)
  distance ← pick_of at_end grid t
  left ← pick_of at_end ((line.k ⊖ 1f) ⊗ step) (line.last ⊗ step ⊖ 1f)
  right ← pick_of at_end (line.k ⊗ step) 0f
  picked ← pick_of at_end u t
  record { distance = distance; left = left; right = right; target = picked ⊖ step ⊗ ½f }

-- (target - left).mul_add(toward, left), as a word
unfoldable pub branch_of : Float → Float → Float → ℕ
branch_of target toward at = to_word (mul_add (target ⊖ at) toward at)

unfoldable pub quantise_of : Float → Float → ℕ → Float → ReadList → ReadList
quantise_of a h word gain out = do
  s ← steps_of a h
  e ← edge_of s.steps s.step word
  left ← branch_of e.target s.toward e.left
  right ← branch_of e.target s.toward e.right
  weight ← smoothstep_of ((e.distance ⊕ s.half) ⊘ (2f ⊗ s.half))
  push_pair out right weight left gain
