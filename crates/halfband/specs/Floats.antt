-- The decimator's f32 arithmetic, and its designs as the definition takes them. Definitions only.
use Rattle.std.specs.Prelude.{List, [], ◌∷◌, ℕ, get_or, take, drop, Float}
use Rattle.std.specs.Float.{nan}
use Rattle.floats.specs.F32.{◌⊕◌, ◌⊖◌, ◌⊗◌, bits, 0f, ½f}
use Rattle.halfband.specs.declared.design.Design.{Design}
use Rattle.halfband.specs.declared.design.Designs.{Designs}
use Rattle.halfband.specs.Halfband.{Kind, Sections}

-- (input - y) * c + x, and (paths[0] + paths[1]) * 0.5, each operation rounded
abbrev pub floats : Kind Float
floats =
    record {
      none = nan;
      load = λ cell. cell;
      section = λ c x y input. (input ⊖ y) ⊗ c ⊕ x;
      mix = λ p q. (p ⊕ q) ⊗ ½f;
    }

abbrev pub sections : List Float → ℕ → Sections Float
sections coefs count = record { coefs = coefs; count = count }

abbrev pub sections_of : Design → Sections Float
sections_of d = sections d.coefs d.count

abbrev pub no_design : Design
no_design = record { coefs = []; count = 0 }

-- the design of the stage that is j stages before the last
abbrev pub design_of : Designs → ℕ → Sections Float
design_of ds j = sections_of (get_or ds.stages j no_design)

-- ---- designs on a slice of 36 coefficients

abbrev pub design_at : List Float → ℕ → ℕ → Design
design_at coefs at count = record { coefs = take 12 (drop at coefs); count = count }

unfoldable pub designs_of : List Float → ℕ → ℕ → ℕ → Designs
designs_of coefs count0 count1 count2 =
    record { stages = design_at coefs 0 count0 ∷ design_at coefs 12 count1 ∷ design_at coefs 24 count2 ∷ [] }

-- ---- the card's three designs
-- the last stage's: 0.034332752, 0.12848179, 0.26047325, 0.40524498, 0.5431863, 0.66346705, 0.7630483, 0.8440243, 0.9112316, 0.9708499;
-- of the one before it: 0.036116753, 0.13707772, 0.28504226, 0.4614878, 0.65648645, 0.87495035;
-- of the one before that: 0.035724986, 0.13916272, 0.30249274, 0.5226143, 0.81379634

abbrev card_design : ℕ → List Float → Design
card_design count coefs = record { coefs = coefs; count = count }

unfoldable pub card_designs : Designs
card_designs =
    record {
      stages =
          card_design 10
          (bits 0x3d0c_a080 ∷ bits 0x3e03_90bb ∷ bits 0x3e85_5cc0 ∷ bits 0x3ecf_7c45 ∷ bits 0x3f0b_0e42 ∷ bits 0x3f29_d8fa
          ∷ bits 0x3f43_5722 ∷ bits 0x3f58_11fa ∷ bits 0x3f69_4679 ∷ bits 0x3f78_899e ∷ 0f ∷ 0f ∷ [])
          ∷ card_design 6
          (bits 0x3d13_ef29 ∷ bits 0x3e0c_5e1a ∷ bits 0x3e91_f10f ∷ bits 0x3eec_4821 ∷ bits 0x3f28_0f7f ∷ bits 0x3f5f_fcbf
          ∷ 0f ∷ 0f ∷ 0f ∷ 0f ∷ 0f ∷ 0f ∷ [])
          ∷ card_design 5
          (bits 0x3d12_545d ∷ bits 0x3e0e_80ac ∷ bits 0x3e9a_e054 ∷ bits 0x3f05_ca0d ∷ bits 0x3f50_54f5 ∷ 0f
          ∷ 0f ∷ 0f ∷ 0f ∷ 0f ∷ 0f ∷ 0f ∷ [])
          ∷ [];
    }
