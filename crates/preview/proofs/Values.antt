-- Points and modes worked out. Assumes nothing.
use Prim.Native.Nat.{ℕ}
use mathlib.Core.Path.{◌≡◌, refl}
use mathlib.Core.List.{[], ◌∷◌, map}
use Rattle.modes.specs.Table.{modes, source_of, modulated_of}
use Rattle.modes.proofs.Ranges.{from}
use Rattle.wave.specs.Slot.{is_modulated}
use Rattle.preview.specs.Points.{word_at}
use Rattle.preview.specs.Shaping.{has_source}
use Rattle.preview.specs.Refusal.{preview_refusal}
use Rattle.limits.specs.Lines.{first_of}

thirds : map (word_at 3) (0 ∷ 1 ∷ 2 ∷ []) ≡ 0 ∷ 0x5555_5555 ∷ 0xaaaa_aaaa ∷ []
unfolding word_at
thirds = refl

last_point : word_at 4096 4095 ≡ 0xfff0_0000
unfolding word_at
last_point = refl

-- a mode has a source exactly where it is modulated
pub same_modes : map has_source (from 0 70) ≡ map is_modulated (from 0 70)
unfolding has_source is_modulated source_of modulated_of modes
same_modes = refl

-- an empty picture that no line holds for, and one that is turned down
empty_picture : preview_refusal 69 69 0 1025 2048 13 ≡ 0
unfolding preview_refusal first_of
empty_picture = refl

empty_refused : map (λ (points : ℕ). preview_refusal 0 0 points 1024 2048 13) (0 ∷ 4096 ∷ 4097 ∷ []) ≡ 7 ∷ 7 ∷ 4 ∷ []
unfolding preview_refusal first_of
empty_refused = refl
