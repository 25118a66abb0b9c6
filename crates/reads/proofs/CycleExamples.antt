-- Reads that can be followed by hand, of cycles with entries 0, 1 and 2,047. Assumes nothing.
use mathlib.Core.Path.{◌≡◌, refl}
use mathlib.Core.List.{List, [], ◌∷◌, ◌++◌}
use lib.ListN.{replicate}
use lib.Ieee as Ieee
use lib.Ieee.{Float, nan, inf}
use mathlib.Core.Bool.{true, false}
use Rattle.floats.specs.F32.{bits, 0f, 1f, ½f, 4f}
use Rattle.floats.specs.Steps.{◌>>=◌}
use Rattle.reads.specs.Reads.{fraction_of, cycle_at}

abbrev cycle : Float → Float → Float → List Float
cycle a b z = a ∷ b ∷ replicate 2045 0f ++ z ∷ []

-- 0, 1, .., 8: half way from 0 to 1, from 8 to 0, and at the ends
abbrev ramp : List Float
ramp = cycle 0f 1f (bits 0x4100_0000)

pub half_way : cycle_at ramp 0x0010_0000 ≡ ½f
unfolding cycle_at fraction_of ◌>>=◌ Ieee.of_bits Ieee.of_int Ieee.round Ieee.div Ieee.mul Ieee.sub Ieee.add
half_way = refl

pub back_to_first : cycle_at ramp 0xfff0_0000 ≡ 4f
unfolding cycle_at fraction_of ◌>>=◌ Ieee.of_bits Ieee.of_int Ieee.round Ieee.div Ieee.mul Ieee.sub Ieee.add
back_to_first = refl

pub at_entry : cycle_at ramp 0 ≡ 0f
unfolding cycle_at fraction_of ◌>>=◌ Ieee.of_bits Ieee.of_int Ieee.round Ieee.div Ieee.mul Ieee.sub Ieee.add
at_entry = refl

pub before_next : cycle_at ramp 0x001f_ffff ≡ bits 0x3f7f_fff8
unfolding cycle_at fraction_of ◌>>=◌ Ieee.of_bits Ieee.of_int Ieee.round Ieee.div Ieee.mul Ieee.sub Ieee.add
before_next = refl

-- no shortcut at an entry: -0 beside 1 reads as +0, and beside -1 as -0
pub zero_rises : cycle_at (cycle (bits 0x8000_0000) 1f 0f) 0 ≡ 0f
unfolding cycle_at fraction_of ◌>>=◌ Ieee.of_bits Ieee.of_int Ieee.round Ieee.div Ieee.mul Ieee.sub Ieee.add
zero_rises = refl

pub zero_falls : cycle_at (cycle (bits 0x8000_0000) (bits 0xbf80_0000) 0f) 0 ≡ bits 0x8000_0000
unfolding cycle_at fraction_of ◌>>=◌ Ieee.of_bits Ieee.of_int Ieee.round Ieee.div Ieee.mul Ieee.sub Ieee.add
zero_falls = refl

-- 3e38 beside -3e38: the difference overflows, at the entry and past it
pub too_steep : cycle_at (cycle (bits 0x7f61_b1e6) (bits 0xff61_b1e6) 0f) 0 ≡ nan
unfolding cycle_at fraction_of ◌>>=◌ Ieee.of_bits Ieee.of_int Ieee.round Ieee.div Ieee.mul Ieee.sub Ieee.add
too_steep = refl

pub steep_past_entry : cycle_at (cycle (bits 0x7f61_b1e6) (bits 0xff61_b1e6) 0f) 1 ≡ inf true
unfolding cycle_at fraction_of ◌>>=◌ Ieee.of_bits Ieee.of_int Ieee.round Ieee.div Ieee.mul Ieee.sub Ieee.add
steep_past_entry = refl

-- 1 beside infinity, at its entry and half way
pub beside_infinity : cycle_at (cycle 1f (bits 0x7f80_0000) 0f) 0 ≡ nan
unfolding cycle_at fraction_of ◌>>=◌ Ieee.of_bits Ieee.of_int Ieee.round Ieee.div Ieee.mul Ieee.sub Ieee.add
beside_infinity = refl

pub toward_infinity : cycle_at (cycle 1f (bits 0x7f80_0000) 0f) 0x0010_0000 ≡ inf false
unfolding cycle_at fraction_of ◌>>=◌ Ieee.of_bits Ieee.of_int Ieee.round Ieee.div Ieee.mul Ieee.sub Ieee.add
toward_infinity = refl

-- -2 beside 0.2: difference, product and sum round one by one. Of two operations taken as one, and of both entries weighted, other numbers come
pub rounds_thrice : cycle_at (cycle (bits 0xc000_0000) (bits 0x3e4c_cccd) 0f) 0x0018_0000 ≡ bits 0xbeb3_3330
unfolding cycle_at fraction_of ◌>>=◌ Ieee.of_bits Ieee.of_int Ieee.round Ieee.div Ieee.mul Ieee.sub Ieee.add
rounds_thrice = refl
