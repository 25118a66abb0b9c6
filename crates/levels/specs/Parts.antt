-- The search in parts: what its functions promise. Definitions only.
use Rattle.std.specs.Prelude.{ℕ, Bool, cond, ltb, List, Float, Option, Some, None}
use Rattle.floats.specs.F32.{◌⊗◌}
use Rattle.limits.specs.Search.{least_below}
use Rattle.wave.specs.Curve.{curve_of}
use Rattle.wave.specs.Smooth.{drive_of, rectified}
use Rattle.levels.specs.Levels.{amount_of, within_of}

-- the least number below k that has p, if one has it
unfoldable pub least_of : ℕ → (ℕ → Bool) → Option ℕ
least_of k p = cond (ltb (least_below k p) k) (Some (least_below k p)) None

-- how many amounts a part has
abbrev pub part_length : ℕ
part_length = 64

-- whether an amount serves, of Rectify and of any other mode
unfoldable pub rectified_at : Float → Float → Float → ℕ → Bool
rectified_at sample wanted tolerance h = within_of wanted tolerance (rectified (amount_of h) sample)

unfoldable pub curved_at : List Float → ℕ → Float → Float → Float → ℕ → Bool
curved_at sk mode sample wanted tolerance h = within_of wanted tolerance (curve_of sk mode (drive_of mode (amount_of h) ⊗ sample))
