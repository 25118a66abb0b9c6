-- The mode totals, counted over the one table. Definitions only.
use Rattle.std.specs.Prelude.{ℕ, suc, Bool, cond, List, [], ◌∷◌}
use Rattle.modes.specs.Stage.{is_off, is_phase, is_wave}
use Rattle.modes.specs.Table.{Row, modes}

abbrev pub count : (Row → Bool) → List Row → ℕ
count p [] = 0
count p (r ∷ rs) = cond (p r) (suc (count p rs)) (count p rs)

-- P1: how many modes are of the phase stage, the wave stage and neither, are oversampled, and are distortions
unfoldable pub totals : List ℕ
unfolding modes
totals =
    count (λ (r : Row). is_phase r.stage) modes ∷
    count (λ (r : Row). is_wave r.stage) modes ∷
    count (λ (r : Row). is_off r.stage) modes ∷
    count (λ (r : Row). r.oversampled) modes ∷
    count (λ (r : Row). r.distortion) modes ∷
    []
