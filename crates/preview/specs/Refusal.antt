-- When a picture is turned down: document 01's lines, for the arguments that the call has, and request E2's for its points. Definitions only.
use Rattle.std.specs.Prelude.{Bool, ◌||◌, [], ◌∷◌, ℕ}
use Rattle.limits.specs.Lines.{first_of, bad_modes, bad_points}
use Rattle.limits.specs.Lengths.{curve_length, cycle_length, numbers_length, shorter}

-- 7: curve, cycle, sine and arctangent numbers
abbrev pub preview_short : ℕ → ℕ → ℕ → Bool
preview_short curve cycle numbers = shorter curve_length curve || shorter cycle_length cycle || shorter numbers_length numbers

-- from the modes, the points, and the lengths of what is read
unfoldable pub preview_refusal : ℕ → ℕ → ℕ → ℕ → ℕ → ℕ → ℕ
preview_refusal mode0 mode1 points curve cycle numbers =
    first_of ((bad_modes mode0 mode1, 1) ∷ (bad_points points, 4) ∷ (preview_short curve cycle numbers, 7) ∷ [])
