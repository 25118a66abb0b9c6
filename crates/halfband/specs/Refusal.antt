-- The lines of document 01's table of refusals ("Turned down") that a decimation has, for its arguments, and its number. Definitions only.
use Rattle.std.specs.Prelude.{◌||◌, [], ◌∷◌, ℕ}
use Rattle.limits.specs.Lines.{first_of, bad_factor, bad_lanes, bad_frames, bad_counts}
use Rattle.limits.specs.Lengths.{rendered_length, coefs_length, state_length, shorter}

-- the number of a decimation, from its numbers and the lengths of what it is lent
unfoldable pub refusal : ℕ → ℕ → ℕ → ℕ → ℕ → ℕ → ℕ → ℕ → ℕ → ℕ → ℕ
refusal factor n active frames count0 count1 count2 coefs buffer state =
    first_of
    ((bad_factor factor, 2)
    ∷ (bad_lanes n active, 3)
    ∷ (bad_frames frames, 4)
    ∷ (bad_counts count0 count1 count2, 6)
    ∷ (shorter coefs_length coefs, 7)
    ∷ (shorter (rendered_length frames factor n) buffer || shorter (state_length n) state, 8)
    ∷ [])
