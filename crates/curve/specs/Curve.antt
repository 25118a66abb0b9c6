-- `RemapCurve` of curve.rs on its rendered table, in its steps. The table has 1,025 values: `CURVE_RESOLUTION` is 1,024. Definitions only.
use Rattle.std.specs.Prelude.{ℕ, zero, suc, ◌+◌, min, List, pos, get_or, Float}
use Rattle.std.specs.Float.Ieee as Ieee
use Rattle.std.specs.Float.{nan, binary32}
use Rattle.floats.specs.F32.{◌⊕◌, ◌⊖◌, ◌⊗◌, bits, 0f, 1f, 16f}
use Rattle.floats.specs.Steps.{◌>>=◌}
use Rattle.floats.specs.Sign.{abs_of}
use Rattle.lanes.specs.Lane.{max_of}
use Rattle.lanes.specs.Maths.{clamp_of}

-- CURVE_RESOLUTION as f32: 1,024
abbrev pub resolution : Float
resolution = bits 0x4480_0000

-- (at as usize).min(CURVE_RESOLUTION - 1); a NaN's index is 0
abbrev pub segment_of : Float → ℕ
segment_of at = min (Ieee.to_unsigned 64 at) 1023

-- `value`: t is from the index and not from the floor of `at`, which differ where x is -0
unfoldable pub value_of : List Float → Float → Float
value_of table x = do
  kept ← clamp_of x 0f 1f
  at ← kept ⊗ resolution
  i ← segment_of at
  whole ← Ieee.of_int binary32 (pos i)
  t ← at ⊖ whole
  get_or table i nan ⊕ (get_or table (i + 1) nan ⊖ get_or table i nan) ⊗ t

-- (pair[1] - pair[0]).abs()
unfoldable pub slope_of : List Float → ℕ → Float
slope_of table i = abs_of (get_or table (i + 1) nan ⊖ get_or table i nan)

-- fold(0.0, max) over the first n pairs of `windows(2)`; the NaNs among them are passed over
unfoldable pub steepest_to : List Float → ℕ → Float
steepest_to table zero = 0f
steepest_to table (suc n) = max_of (steepest_to table n) (slope_of table n)

-- the fold over all pairs * CURVE_RESOLUTION as f32, then clamp(1.0, MAX_CURVE_STRETCH), which is 16
unfoldable pub steepest_of : List Float → Float
steepest_of table = clamp_of (steepest_to table 1024 ⊗ resolution) 1f 16f
