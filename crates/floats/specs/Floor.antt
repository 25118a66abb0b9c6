-- The floor of an f32, as IEEE 754 has it (roundToIntegralTowardNegative). Definitions only.
use Rattle.std.specs.Prelude.{◌*◌, ◌/◌, ◌%◌, cond, pos, negsuc, eqb, Float}
use Rattle.std.specs.Float.Ieee as Ieee
use Rattle.std.specs.Float.{nan, inf, fin, binary32}
use Rattle.std.specs.Float.Ieee.{up, down}

-- The largest whole number that is not above x: x itself where it is whole, as every zero is; an infinity and a NaN stay.
-- The size of `fin s m e` is m * up e / down e; `negsuc q` is -(q + 1).
unfoldable pub floor_of : Float → Float
floor_of nan = nan
floor_of (inf s) = inf s
floor_of (fin s m e) =
    let q = m * up e / down e in
    cond (eqb (m * up e % down e) 0) (fin s m e) (Ieee.of_int binary32 (cond s (negsuc q) (pos q)))
