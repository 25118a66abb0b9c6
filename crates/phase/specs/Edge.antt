-- What the maps of phase.rs have in common. `sk` and `ak` are the sine and arctangent numbers, h is the crossfade's half width.
-- Definitions only.
use Rattle.std.specs.Prelude.{ℕ, List, Float}
use Rattle.floats.specs.F32.{◌⊕◌, ◌⊖◌, ◌⊗◌, ◌⊘◌, bits, 0f, 1f, 2f, ½f}
use Rattle.floats.specs.Steps.{◌>>=◌}
use Rattle.floats.specs.Floor.{floor_of}
use Rattle.lanes.specs.Lane.{mul_add}
use Rattle.lanes.specs.Maths.{clamp_of, smoothstep_of, sin_cycles, cos_cycles, atan_of}
use Rattle.lanes.specs.Word.{signed_of, lookup_of}

-- FRAC_1_PI: 0.31830987
abbrev pub frac1pi : Float
frac1pi = bits 0x3ea2_f983

-- the running phase as a fraction of a cycle, 0 to 1
unfoldable pub unit_of : ℕ → Float
unit_of word = do
  t ← signed_of word
  whole ← floor_of t
  t ⊖ whole

-- x wrapped to -1/2 to 1/2: x - (x + 0.5).floor()
unfoldable pub wrap_of : Float → Float
wrap_of x = do
  whole ← floor_of (x ⊕ ½f)
  x ⊖ whole

-- the step across an edge at 0, smoothed h cycles either side: |x| smoothstep((x + half) / width)
unfoldable pub edge_step : Float → Float → Float
edge_step h x = do
  width ← 2f ⊗ h
  smoothstep_of ((x ⊕ h) ⊘ width)

-- a box of this half-length centred on 0, repeating every cycle, its edges smoothed h cycles either side, at v cycles from its centre;
-- the sum is taken from left to right
unfoldable pub smooth_box : Float → Float → Float → Float
smooth_box v halfLength h = do
  rise ← edge_step h (v ⊕ halfLength)
  fall ← edge_step h (v ⊖ halfLength)
  next ← edge_step h (v ⊕ halfLength ⊖ 1f)
  last ← edge_step h (v ⊖ halfLength ⊕ 1f)
  clamp_of (rise ⊖ fall ⊕ next ⊕ 1f ⊖ last) 0f 1f

-- the lean map's offset at x cycles, for the strength beta
unfoldable pub lean_offset : List Float → List Float → Float → Float → Float
lean_offset sk ak x beta = do
  k ← cos_cycles sk x
  s ← sin_cycles sk x
  ratio ← beta ⊗ (1f ⊖ k) ⊘ (2f ⊖ beta ⊗ s)
  angle ← atan_of ak ratio
  angle ⊗ frac1pi

-- the drawn curve blended from identity by `a`, at x: (curve - x).mul_add(a, x)
unfoldable pub remap_of : List Float → Float → Float → Float
remap_of table a x = do
  y ← lookup_of table x
  mul_add (y ⊖ x) a x
