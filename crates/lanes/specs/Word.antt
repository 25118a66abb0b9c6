-- Phase words: whole numbers below 2 ^ 32, of which 2 ^ 32 is one cycle. From `impl Lane for f32` of lanes.rs. Definitions only.
use Rattle.std.specs.Prelude.{ℕ, ◌+◌, ◌-◌, ◌*◌, ◌%◌, ◌^◌, List, get_or, slice_index_or, Float}
use Rattle.std.specs.Float.Ieee as Ieee
use Rattle.std.specs.Float.{nan, binary32}
use Rattle.floats.specs.F32.{◌⊕◌, ◌⊖◌, ◌⊗◌, ◌⊘◌, bits, 0f, 1f, ½f}
use Rattle.floats.specs.Steps.{◌>>=◌, when◌then◌else◌}
use Rattle.floats.specs.Floor.{floor_of}
use Rattle.floats.specs.Casts.{cast_word, as_signed}
use Rattle.lanes.specs.Lane.{mul_add, min_of}
use Rattle.lanes.specs.Maths.{clamp_of}

-- a.wrapping_add(b)
unfoldable pub add_words : ℕ → ℕ → ℕ
add_words a b = (a + b) % 2 ^ 32

-- a.wrapping_add(b.wrapping_sub(a).wrapping_mul(mask as i32 as u32))
unfoldable pub pick_word : Float → ℕ → ℕ → ℕ
pick_word mask a b = add_words a (add_words b (2 ^ 32 - a) * cast_word mask % 2 ^ 32)

-- 2 ^ 32 and 2 ^ 31
abbrev pub two32 : Float
two32 = bits 0x4f80_0000

abbrev pub two31 : Float
two31 = bits 0x4f00_0000

-- word as i32 as f32 * (1.0 / TWO_32)
unfoldable pub signed_of : ℕ → Float
signed_of word = Ieee.of_int binary32 (as_signed word) ⊗ (1f ⊘ two32)

-- the test against 2 ^ 31 is the Rust's
unfoldable pub to_word : Float → ℕ
to_word x = do
  down ← floor_of (x ⊕ ½f)
  wrapped ← x ⊖ down
  scaled ← wrapped ⊗ two32
  when Ieee.le two31 scaled then 2 ^ 31 else cast_word scaled

-- With 1,024 segments, as every call has: the numbers are 1,024, `segments as f32`, and 1,023, `(segments - 1) as f32`.
-- A NaN's index is 0 (`Ieee.to_unsigned`, which is `as usize`)
unfoldable pub lookup_of : List Float → Float → Float
lookup_of table x = do
  kept ← clamp_of x 0f 1f
  at ← kept ⊗ bits 0x4480_0000
  down ← floor_of at
  whole ← min_of down (bits 0x447f_c000)
  i ← Ieee.to_unsigned 64 whole
  mul_add (get_or table (i + 1) nan ⊖ get_or table i nan) (at ⊖ whole) (slice_index_or table i nan)
