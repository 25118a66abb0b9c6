-- A point's reads: the list has one at least, and the sum of its products. The slope of a mode that does not go by the curve. Assumes nothing.
use Prim.Native.Nat.{ℕ, ◌*◌, ◌/◌, ◌<◌}
use mathlib.Core.Path.{◌≡◌, refl}
use mathlib.Core.Bool.{true, false, ◌||◌}
use mathlib.Core.List.{List}
use native.Mathlib.Nat.{div-lt_iff_lt-mul}
use native.Mathlib.Omega.{arith}
use lib.Dec.{eqb}
use lib.Ieee.{Float}
use Rattle.std.proofs.Common.{Option, None}
use Rattle.floats.specs.Steps.{◌>>=◌, when◌then◌else◌}
use Rattle.modes.specs.Mode.{number_of, RemapDrawn, RemapMirrored, RemapQuad}
use Rattle.modes.specs.Choice.{case_of}
use Rattle.limits.proofs.LineLaws.{or_false}
use Rattle.reads.specs.Reads.{start_of}
use Rattle.slope.specs.Slope.{slope_of, stretch_of}
use Rattle.phase.specs.declared.setting.MapSetting.{MapSetting}
use Rattle.phase.specs.Sums.{apply_if, shift_if, sum_of}
use Rattle.phase.proofs.Some.{Some, start_some, some_if}
use Rattle.preview.specs.Points.{Steepest, drawn_reads, point_of}

-- ---- a point lies below the cycle's end
pub word_below : (points i : ℕ) → i < points → i * 4294967296 / points < 4294967296
word_below points i h =
    let some : 0 < points = omega arith in
    let less : i * 4294967296 < 4294967296 * points = omega arith in
    (div-lt_iff_lt-mul {k = points} {x = i * 4294967296} {y = 4294967296} some).1 less

-- ---- the reads
-- the list has one at least, so that its products are one or more
pub some_read : (sk ak curve : List Float) (map0 map1 : Option MapSetting) (word : ℕ) → Some (drawn_reads sk ak curve map0 map1 word)
unfolding drawn_reads ◌>>=◌
some_read sk ak curve map0 map1 word = some_if _ _ _ _ _ (some_if _ _ _ _ _ (start_some word))

-- the sum as the code asks for it
pub summed : (sk ak curve cycle : List Float) (map0 map1 : Option MapSetting) (word : ℕ)
    → sum_of true cycle (shift_if None (apply_if sk ak curve map0 (apply_if sk ak curve map1 (start_of word)))) ≡ point_of sk ak curve cycle map0 map1 word
unfolding sum_of shift_if point_of drawn_reads when◌then◌else◌ ◌>>=◌
summed sk ak curve cycle map0 map1 word = refl

-- ---- a slope that does not go by the curve
pub any_steepest : (mode : ℕ) (curve : List Float) (s : Float) → (eqb mode (number_of RemapDrawn) || eqb mode (number_of RemapMirrored) || eqb mode (number_of RemapQuad)) ≡ false → Steepest mode curve s
unfolding stretch_of slope_of case_of ◌>>=◌
any_steepest mode curve s e =
    let first = or_false (eqb mode (number_of RemapDrawn) || eqb mode (number_of RemapMirrored)) (eqb mode (number_of RemapQuad)) e in
    let both = or_false (eqb mode (number_of RemapDrawn)) (eqb mode (number_of RemapMirrored)) first.0 in
    record { alike = λ a. rw (both.0, both.1, first.1) }
