-- A patch as the card takes it, and when two are the same. Definitions only.
use Rattle.std.specs.Prelude.{Bool, ◌&&◌, ℕ, eqb, pos, Float}
use Rattle.std.specs.Float.{binary32}
use Rattle.std.specs.Float.Ieee.{of_int}
use Rattle.floats.specs.F32.{◌⊘◌, bits, 100f}
use Rattle.files.specs.declared.patches.PatchSlot.{PatchSlot}
use Rattle.files.specs.declared.patches.Patch.{Patch}

abbrev 10000f : Float
10000f = bits 0x461c_4000

-- hundredths divided by 100, ten-thousandths divided by 10,000
unfoldable pub card_amount : ℕ → Float
card_amount hundredths = of_int binary32 (pos hundredths) ⊘ 100f

unfoldable pub card_character : ℕ → Float
card_character tenthousandths = of_int binary32 (pos tenthousandths) ⊘ 10000f

-- two slots agree in mode and amount
abbrev pub same_slot : PatchSlot → PatchSlot → Bool
same_slot s t = eqb s.mode t.mode && eqb s.hundredths t.hundredths

-- both slots agree in mode and amount
abbrev pub same_patch : Patch → Patch → Bool
same_patch p q =
    eqb p.slot0.mode q.slot0.mode && eqb p.slot0.hundredths q.slot0.hundredths
    && eqb p.slot1.mode q.slot1.mode && eqb p.slot1.hundredths q.slot1.hundredths
