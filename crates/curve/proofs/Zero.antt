-- The curve's value is not crate lanes' `lookup`: at -0, in a segment that starts at -0, they answer -0 and +0. Assumes nothing.
use mathlib.Core.Path.{◌≡◌, refl}
use mathlib.Core.Bool.{true, false}
use mathlib.Core.List.{[], ◌∷◌}
use lib.IntN.{pos}
use lib.Ieee.{Float, fin, lt, add, sub, mul, of_bits, of_int, to_unsigned}
use Rattle.floats.specs.F32.{1f}
use Rattle.floats.specs.Steps.{◌>>=◌}
use Rattle.floats.specs.Floor.{floor_of}
use Rattle.lanes.specs.Lane.{min_of, max_of}
use Rattle.lanes.specs.Maths.{clamp_of}
use Rattle.lanes.specs.Word.{lookup_of}
use Rattle.curve.specs.Curve.{value_of}

abbrev zero⁻ : Float
zero⁻ = fin true 0 (pos 0)

pub value_at_zero : value_of (zero⁻ ∷ 1f ∷ []) zero⁻ ≡ zero⁻
unfolding value_of ◌>>=◌ clamp_of max_of min_of lt add sub mul of_bits of_int to_unsigned
value_at_zero = refl

pub lookup_at_zero : lookup_of (zero⁻ ∷ 1f ∷ []) zero⁻ ≡ fin false 0 (pos 0)
unfolding lookup_of ◌>>=◌ clamp_of max_of min_of floor_of lt add sub mul of_bits to_unsigned
lookup_at_zero = refl
