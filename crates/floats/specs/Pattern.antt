-- A finite f32 by its bit pattern b: its size is significand_of b * 2 ^ exponent_of b times 2 ^ -149, the smallest f32 above zero.
-- 8388608 is 2 ^ 23, below which the fraction lies, and 2147483648 is 2 ^ 31, the sign. Definitions only.
use Rattle.std.specs.Prelude.{ℕ, ◌+◌, ◌-◌, ◌*◌, ◌/◌, ◌%◌, ◌^◌, cond, pos, eqb, Float}
use Rattle.std.specs.Float.Ieee as Ieee
use Rattle.std.specs.Float.{nan, binary32}
use Rattle.floats.specs.declared.pattern.Parts.{Parts}
use Rattle.floats.specs.F32.{◌⊖◌, ◌⊗◌, bits, 127f}

-- the exponent's field
abbrev pub field_of : ℕ → ℕ
field_of b = b % 2147483648 / 8388608

-- the significand, with the leading one that a field above 0 stands for
abbrev pub significand_of : ℕ → ℕ
significand_of b = cond (eqb (field_of b) 0) (b % 8388608) (8388608 + b % 8388608)

-- the exponent, in units of 2 ^ -149: fields 0 and 1 both stand for 0
abbrev pub exponent_of : ℕ → ℕ
exponent_of b = field_of b - 1

-- `split`: the biased exponent's float, the sign with it, less 127, and x times a power of two; both NaN for a NaN.
-- The power's pattern is 254u32.wrapping_sub(biased) << 23, which keeps nine digits: 254 - biased modulo 512, and 766 is 254 + 512
unfoldable pub split_of : Float → Parts
split_of x =
    let biased = Ieee.to_bits binary32 x / 2 ^ 23 in
    cond (Ieee.is_nan x) (record { exponent = nan; mantissa = nan })
    (record { exponent = Ieee.of_int binary32 (pos biased) ⊖ 127f; mantissa = x ⊗ bits ((766 - biased) % 512 * 0x80_0000) })
