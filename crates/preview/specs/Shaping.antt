-- A picture through a slot of the wave stage. Definitions only.
use Rattle.std.specs.Prelude.{ℕ, Bool, true, false, not, ◌&&◌, List, length, get_or, Float, Option, Some, None, Result, Ok, Err}
use Rattle.std.specs.Float.{nan}
use Rattle.floats.specs.Steps.{◌>>=◌, when◌then◌else◌}
use Rattle.grid.specs.Functions.{table}
use Rattle.limits.specs.declared.refusal.Refusal.{Refusal}
use Rattle.modes.specs.declared.facts.Source.{Source}
use Rattle.modes.specs.Table.{source_of}
use Rattle.phase.specs.declared.map.Slot.{Slot}
use Rattle.wave.specs.Filter.{cutoff_harmonic, damping_of, filter_of}
use Rattle.wave.specs.Smooth.{rectified, distort_of}
use Rattle.wave.specs.Slot.{in_wave, is_filter}
use Rattle.preview.specs.Filtering.{filtered_of}

abbrev pub says_source : Result (Option Source) Refusal → Bool
says_source (Ok (Some s)) = true
says_source (Ok None) = false
says_source (Err _) = false

-- mode.source().is_some()
unfoldable pub has_source : ℕ → Bool
has_source mode = says_source (source_of mode)

-- Rectify, point by point
unfoldable pub rectified_of : Float → List Float → List Float
rectified_of a xs = table (length xs) (λ i. rectified a (get_or xs i nan))

-- plain `distort`, point by point
unfoldable pub distorted_of : List Float → ℕ → Float → List Float → List Float
distorted_of sk mode a xs = table (length xs) (λ i. distort_of sk mode a (get_or xs i nan))

-- a filter's steady state
unfoldable pub settled_of : List Float → Slot → Float → Float → List Float → List Float
settled_of sk slot a increment xs = do
  harmonic ← cutoff_harmonic slot.mode a
  k ← damping_of slot.character
  filtered_of (filter_of sk slot.mode harmonic increment k) xs

-- a slot in the wave stage; one that reads a source does nothing, as in a run where its source is absent
unfoldable pub shaped_of : List Float → Slot → Float → Float → List Float → List Float
shaped_of sk slot a increment xs =
    when in_wave slot.mode && not (has_source slot.mode)
    then (when is_filter slot.mode then settled_of sk slot a increment xs else distorted_of sk slot.mode a xs)
    else xs
