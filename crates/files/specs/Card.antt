-- What the card's calls on patch files answer. Definitions only.
use Rattle.std.specs.Prelude.{Bool, cond, ℕ, eqb, Result, Ok, Err}
use Rattle.limits.specs.Refusals.{line_of}
use Rattle.limits.specs.declared.refusal.Refusal.{Refusal}
use Rattle.files.specs.declared.patches.PatchSlot.{PatchSlot}
use Rattle.files.specs.declared.patches.Patch.{Patch}
use Rattle.files.specs.declared.answers.CardSlot.{CardSlot}
use Rattle.files.specs.declared.answers.CardPatch.{CardPatch}
use Rattle.files.specs.declared.answers.Same.{Same}
use Rattle.files.specs.Patch.{card_amount, card_character, same_patch}
use Rattle.files.specs.Reader.{Reading}

-- a slot in whole numbers and in floats
unfoldable pub card_slot : PatchSlot → CardSlot
card_slot s =
    record { mode = s.mode; hundredths = s.hundredths; tenthousandths = s.tenthousandths; amount = card_amount s.hundredths; character = card_character s.tenthousandths }

unfoldable pub card_patch : Reading → CardPatch
card_patch r = record { number = r.number; at = r.at; slot0 = card_slot r.patch.slot0; slot1 = card_slot r.patch.slot1 }

-- two files hold the same patch; a file that is turned away holds none
unfoldable pub same_of : Reading → Reading → Same
same_of a b =
    cond (eqb a.number 0)
    (cond (eqb b.number 0) (record { number = 0; same = cond (same_patch a.patch b.patch) 1 0 }) (record { number = b.number; same = 0 }))
    (record { number = a.number; same = 0 })

-- what the code answers of two files
unfoldable pub same_as : Result Bool Refusal → Same
same_as (Ok same) = record { number = 0; same = cond same 1 0 }
same_as (Err refusal) = record { number = line_of refusal; same = 0 }

-- a patch by its numbers
abbrev pub patch_from : ℕ → ℕ → ℕ → ℕ → ℕ → ℕ → Patch
patch_from mode0 hundredths0 tenthousandths0 mode1 hundredths1 tenthousandths1 =
    record {
      slot0 = record { mode = mode0; hundredths = hundredths0; tenthousandths = tenthousandths0 };
      slot1 = record { mode = mode1; hundredths = hundredths1; tenthousandths = tenthousandths1 };
    }
