-- A slot is left with the record of the highest serial, the later among equals. Assumes nothing.
use mathlib.Core.Path.{◌≡◌, refl, ◌∙◌, ap}
use mathlib.Core.Bool.{Bool, true, false, cond}
use mathlib.Core.List.{List, [], ◌∷◌, ◌++◌}
use Prim.Native.Nat.{ℕ, ◌≤◌, ◌<◌}
use native.Mathlib.Omega.{arith}
use borrow.Author.Tests.{ltb-true, ltb-false, eqb-true, eqb-false, ne_eqb, eq-eqb}
use lib.Dec.{ltb, eqb}
use Rattle.files.specs.declared.reader.Held.{Held}
use Rattle.files.specs.declared.reader.Slots.{Slots}
use Rattle.files.specs.declared.fields.Entry.{Entry}
use Rattle.files.specs.Format.{AllValid, more}
use Rattle.files.specs.Reader.{empty_held, empty_slots, held_as, later_of, superseded, held_of}
use Rattle.files.specs.Latest.{EachOf, done, each, Latest, absent, latest}
use Rattle.files.proofs.FieldLaws.{good_fields}

-- ---- one slot

-- what slot j holds after these records, from h on
held_in : ℕ → Held → List Entry → Held
held_in j h [] = h
held_in j h (e ∷ es) = held_in j (cond (eqb e.slot j) (later_of h e) h) es

-- it is h where all of j stay below it, else one of them
data From (j : ℕ) (h : Held) (es : List Entry) (r : Held) : Type 0 where
  kept : EachOf j (λ d. d.serial < h.serial) es → r ≡ h → From j h es r
  newer : (before : List Entry) (e : Entry) (after : List Entry) → es ≡ before ++ e ∷ after → e.slot ≡ j → h.serial ≤ e.serial
      → EachOf j (λ d. d.serial ≤ e.serial) before → EachOf j (λ d. d.serial < e.serial) after → r ≡ held_as e → From j h es r

-- a record that leaves h: of another slot, or below it
passes : {j : ℕ} {h : Held} {es : List Entry} {r : Held} (d : Entry) → (d.slot ≡ j → d.serial < h.serial) → From j h es r → From j h (d ∷ es) r
passes d low (kept all e) = kept (each low all) e
passes d low (newer before x after split of above b a e) =
    newer (d ∷ before) x after (ap (λ l. d ∷ l) split) of above (each {e = d} (λ s. omega (arith, low s)) b) a e

-- one that takes its place
takes : {j : ℕ} {h : Held} {es : List Entry} {r : Held} (d : Entry) → d.slot ≡ j → h.serial ≤ d.serial → From j (held_as d) es r → From j h (d ∷ es) r
takes d of over (kept all e) = newer [] d _ refl of over done all e
takes d of over (newer before x after split xof above b a e) =
    newer (d ∷ before) x after (ap (λ l. d ∷ l) split) xof (omega arith) (each (λ s. above) b) a e

from : (j : ℕ) (h : Held) (es : List Entry) → From j h es (held_in j h es)
unfolding held_in later_of
from j h [] = kept done refl
from j h (d ∷ es) = go (eqb d.slot j) (ltb d.serial h.serial) refl refl (from j h es) (from j (held_as d) es)
  where
    go : (a b : Bool) → eqb d.slot j ≡ a → ltb d.serial h.serial ≡ b → From j h es (held_in j h es)
        → From j (held_as d) es (held_in j (held_as d) es) → From j h (d ∷ es) (held_in j h (d ∷ es))
    go false b ea eb was now = rw ea (passes d (λ s. absurd (eqb-false _ _ ea s)) was)
    go true true ea eb was now = rw (ea, eb) (passes d (λ s. ltb-true _ _ eb) was)
    go true false ea eb was now = rw (ea, eb) (takes d (eqb-true _ _ ea) (ltb-false _ _ eb) now)

-- from an empty slot on
below_none : {j : ℕ} {es : List Entry} → EachOf j (λ d. d.serial < 0) es → EachOf j (λ d. ⊥) es
below_none done = done
below_none (each f all) = each (λ s. absurd (let l = f s in omega arith)) (below_none all)

latest_in : (j : ℕ) (es : List Entry) → Latest j es (held_in j empty_held es)
latest_in j es = go (from j empty_held es)
  where
    go : {r : Held} → From j empty_held es r → Latest j es r
    go (kept all e) = absent (below_none all) e
    go (newer before x after split of above b a e) = latest before x after split of b a e

-- ---- both slots

held_0 : (s : Slots) (es : List Entry) → (held_of s es).held0 ≡ held_in 0 s.held0 es
unfolding held_of held_in superseded
held_0 s [] = refl
held_0 s (e ∷ es) = held_0 (superseded s e) es ∙ ap (λ h. held_in 0 h es) (go (eqb e.slot 0) refl)
  where
    go : (a : Bool) → eqb e.slot 0 ≡ a → (superseded s e).held0 ≡ cond (eqb e.slot 0) (later_of s.held0 e) s.held0
    go true ea = rw ea
    go false ea = rw ea

held_1 : (s : Slots) (es : List Entry) → AllValid es → (held_of s es).held1 ≡ held_in 1 s.held1 es
unfolding held_of held_in superseded
held_1 s [] all = refl
held_1 s (e ∷ es) (more v all) = held_1 (superseded s e) es all ∙ ap (λ h. held_in 1 h es) (go (eqb e.slot 0) refl)
  where
    slot : e.slot ≤ 1
    slot = (good_fields e v.fields).slot

    go : (a : Bool) → eqb e.slot 0 ≡ a → (superseded s e).held1 ≡ cond (eqb e.slot 1) (later_of s.held1 e) s.held1
    go true ea = let is : e.slot ≡ 0 = eqb-true _ _ ea in let no : eqb e.slot 1 ≡ false = ne_eqb e.slot 1 (λ o. omega arith) in rw (ea, no)
    go false ea =
        let not : e.slot ≡ 0 → ⊥ = eqb-false _ _ ea in
        let one : e.slot ≡ 1 = omega (arith, slot) in
        rw (ea, eq-eqb e.slot 1 one)

pub latest_0 : (es : List Entry) → Latest 0 es (held_of empty_slots es).held0
latest_0 es = rw (held_0 empty_slots es) (latest_in 0 es)

pub latest_1 : (es : List Entry) → AllValid es → Latest 1 es (held_of empty_slots es).held1
latest_1 es all = rw (held_1 empty_slots es all) (latest_in 1 es)
