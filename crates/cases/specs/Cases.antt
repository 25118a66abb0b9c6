-- Document 01's P cases: what the definitions give, and what document 01 says. A float is given by its bit pattern. Definitions only.
use Rattle.std.specs.Prelude.{◌≡◌, false, List, [], ◌∷◌, ℕ, ◌/◌, ◌%◌, negsuc, get_or, Float, Some}
use Rattle.std.proofs.Math.Option.{none}
use Rattle.std.specs.Float.{nan, fin, binary32}
use Rattle.std.specs.Float.Ieee.{to_bits}
use Rattle.floats.specs.F32.{bits, 0f, 1f, 2f, ½f}
use Rattle.floats.specs.Exp2.{exp2_of}
use Rattle.lanes.specs.Word.{signed_of}
use Rattle.modes.specs.Mode.{number_of, OddEven, HardClip, Fold, Am1}
use Rattle.modes.specs.Totals.{totals}
use Rattle.reads.specs.declared.lists.LaneReads.{LaneReads}
use Rattle.reads.specs.Reads.{start_of, outgoing_of}
use Rattle.phase.specs.Edge.{unit_of}
use Rattle.phase.specs.Map.{apply_of}
use Rattle.wave.specs.declared.filters.Filtered.{Filtered}
use Rattle.wave.specs.Curve.{curve_of}
use Rattle.wave.specs.Integral.{integral_of}
use Rattle.wave.specs.Smooth.{distort_smooth}
use Rattle.wave.specs.declared.slots.Setting.{Setting}
use Rattle.wave.specs.Slot.{level_of}
use Rattle.controls.specs.Controls.{amount_at, source_at}
use Rattle.halfband.specs.Halfband.{View, cascade}
use Rattle.halfband.specs.Floats.{floats, sections}

pub record Case : Type 0 where
  pub number : ℕ
  pub given : List ℕ
  pub said : List ℕ

abbrev pattern : Float → ℕ
pattern x = to_bits binary32 x

-- the list that `OddEven` makes of one read at the word, at this amount
abbrev pub odd_even : Float → ℕ → LaneReads
odd_even amount word = outgoing_of (apply_of [] [] [] (record { mode = number_of OddEven; character = 0f }) amount 0f (start_of word))

-- its first two gains and words, and its count
abbrev pub first_two : LaneReads → List ℕ
first_two r = pattern (get_or r.gain 0 nan) ∷ pattern (get_or r.gain 1 nan) ∷ get_or r.phase 0 0 ∷ get_or r.phase 1 0 ∷ r.count ∷ []

abbrev pub hard_clip_integral : Float → ℕ
hard_clip_integral x = pattern (integral_of [] (number_of HardClip) x)

abbrev pub fold_curve : Float → ℕ
fold_curve x = pattern (curve_of [] (number_of Fold) x)

-- the answer, and the state after it
abbrev pub filtered : Filtered → List ℕ
filtered f = pattern f.y ∷ pattern f.state.ic1 ∷ pattern f.state.ic2 ∷ []

-- one stage with one coefficient, 0.5, from state 0, on ones
abbrev pub halved : View Float
halved = cascade floats (λ stage. sections (½f ∷ []) 1) 1 2 (record { rows = λ r. 1f; cells = λ block cell. 0f })

unfoldable pub cases : List Case
cases =
    -- the mode totals: phase, wave, off, oversampled, distortion
    record { number = 1; given = totals; said = 41 ∷ 28 ∷ 1 ∷ 66 ∷ 14 ∷ [] }
    -- OddEven, amount 0: gains 0.5 and -0.5, the second word half a cycle on
    ∷ record { number = 2; given = first_two (odd_even 0f 0x1000_0000); said = 0x3f00_0000 ∷ 0xbf00_0000 ∷ 0x1000_0000 ∷ 0x9000_0000 ∷ 2 ∷ [] }
    -- amount 0.5: gains 1 and 0, count 2
    ∷ record { number = 3; given = first_two (odd_even ½f 0x1000_0000); said = 0x3f80_0000 ∷ 0 ∷ 0x1000_0000 ∷ 0x9000_0000 ∷ 2 ∷ [] }
    -- HardClip's integral at 2 is 1.5, at 0.5 is 0.125
    ∷ record { number = 4; given = hard_clip_integral 2f ∷ hard_clip_integral ½f ∷ []; said = 0x3fc0_0000 ∷ 0x3e00_0000 ∷ [] }
    -- Fold's curve at 1, 2, 3 is 1, 0, -1
    ∷ record { number = 5; given = fold_curve 1f ∷ fold_curve 2f ∷ fold_curve (bits 0x4040_0000) ∷ []; said = 0x3f80_0000 ∷ 0 ∷ 0xbf80_0000 ∷ [] }
    -- HardClip smooth, amount 0, state 0 and 0, sample 2: answer 0.75, state 2 and 1.5
    ∷ record {
      number = 6;
      given = filtered (distort_smooth [] (number_of HardClip) 0f 2f (record { ic1 = 0f; ic2 = 0f }));
      said = 0x3f40_0000 ∷ 0x4000_0000 ∷ 0x3fc0_0000 ∷ [];
    }
    -- one stage, one coefficient 0.5, state 0, four ones in: 0.75, then 1.125; x is 1, y is 1.25
    ∷ record {
      number = 7;
      given = pattern (halved.rows 0) ∷ pattern (halved.rows 1) ∷ pattern (halved.cells 0 0) ∷ pattern (halved.cells 0 1) ∷ [];
      said = 0x3f40_0000 ∷ 0x3f90_0000 ∷ 0x3f80_0000 ∷ 0x3fa0_0000 ∷ [];
    }
    -- exp2 of 0, -1, -200: 1, 0.5, 0
    ∷ record {
      number = 8;
      given = pattern (exp2_of (bits 0)) ∷ pattern (exp2_of (bits 0xbf80_0000)) ∷ pattern (exp2_of (bits 0xc348_0000)) ∷ [];
      said = 0x3f80_0000 ∷ 0x3f00_0000 ∷ 0 ∷ [];
    }
    -- exp2 of 0.5: 11,863,283 / 2 ^ 23
    ∷ record {
      number = 9;
      given = pattern (exp2_of (bits 0x3f00_0000)) ∷ [];
      said = pattern (fin false 11863283 (negsuc 22)) ∷ [];
    }
    -- base 120 gives amount 1
    ∷ record { number = 10; given = pattern (amount_at (bits 0x42f0_0000) none 0) ∷ []; said = 0x3f80_0000 ∷ [] }
    -- rows 0 and 1, factor 4, rendered frame 1: 0.25; frame 5: 1
    ∷ record {
      number = 11;
      given = pattern (source_at 4 2 (0f ∷ 1f ∷ []) (1 / 4) (1 % 4)) ∷ pattern (source_at 4 2 (0f ∷ 1f ∷ []) (5 / 4) (5 % 4)) ∷ [];
      said = 0x3e80_0000 ∷ 0x3f80_0000 ∷ [];
    }
    -- AM, amount 1, source -1, sample 1: 0
    ∷ record { number = 12; given = pattern (level_of (number_of Am1) (Some (Setting.Level 1f (bits 0xbf80_0000))) 1f) ∷ []; said = 0 ∷ [] }
    -- word 0xC0000000 is -0.25 signed, 0.75 as a unit
    ∷ record {
      number = 13;
      given = pattern (signed_of 0xc000_0000) ∷ pattern (unit_of 0xc000_0000) ∷ [];
      said = 0xbe80_0000 ∷ 0x3f40_0000 ∷ [];
    }
    ∷ []

-- each case's values are what document 01 says
unfoldable pub Hold : List Case → Type 0
Hold [] = Unit {0}
Hold (c ∷ cs) = (c.given ≡ c.said) × Hold cs
