-- Which record a slot is left with: "the highest serial supersedes; among equal serials the later record does". Definitions only.
use Rattle.std.specs.Prelude.{◌≡◌, List, [], ◌∷◌, ◌++◌, ℕ, ◌<◌, ◌≤◌}
use Rattle.files.specs.declared.reader.Held.{Held}
use Rattle.files.specs.declared.fields.Entry.{Entry}
use Rattle.files.specs.Reader.{held_as, empty_held}

-- of each record of slot j
pub data EachOf (j : ℕ) (P : Entry → Type 0) : List Entry → Type 0 where
  done : EachOf j P []
  each : {e : Entry} {es : List Entry} → (e.slot ≡ j → P e) → EachOf j P es → EachOf j P (e ∷ es)

-- what slot j holds after these records: nothing where it has none, else one that none before it exceeds and all after it stay below
pub data Latest (j : ℕ) (es : List Entry) (h : Held) : Type 0 where
  absent : EachOf j (λ e. ⊥) es → h ≡ empty_held → Latest j es h
  latest : (before : List Entry) (e : Entry) (after : List Entry) → es ≡ before ++ e ∷ after → e.slot ≡ j
      → EachOf j (λ d. d.serial ≤ e.serial) before → EachOf j (λ d. d.serial < e.serial) after → h ≡ held_as e → Latest j es h
