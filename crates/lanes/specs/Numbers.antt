-- The Rust's sine and arctangent numbers, by bit pattern as the oracle prints them. Definitions only.
use Rattle.std.specs.Prelude.{[], ◌∷◌}
use Rattle.floats.specs.F32.{bits}
use Rattle.lanes.specs.declared.maths.Numbers.{Numbers}

-- `SIN`: 1, -0.16666648, 0.008332899, -0.0001980083, 2.5903703e-6, near those of the sine's series, 1, -1/3!, 1/5!, ..
-- `ATAN`: the f32s nearest 1, -1/3, 1/5, -1/7, 1/9, -1/11, 1/13, -1/15
unfoldable pub rust_numbers : Numbers
rust_numbers =
    record {
      sin = bits 0x3f80_0000 ∷ bits 0xbe2a_aa9e ∷ bits 0x3c08_86b6 ∷ bits 0xb94f_a073 ∷ bits 0x362d_d639 ∷ [];
      atan =
          bits 0x3f80_0000 ∷ bits 0xbeaa_aaab ∷ bits 0x3e4c_cccd ∷ bits 0xbe12_4925 ∷ bits 0x3de3_8e39 ∷ bits 0xbdba_2e8c
          ∷ bits 0x3d9d_89d9 ∷ bits 0xbd88_8889 ∷ [];
    }
