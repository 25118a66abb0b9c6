-- A picture through a filter. Definitions only.
use Rattle.std.specs.Prelude.{ℕ, zero, suc, List, length, get_or, Float}
use Rattle.std.specs.Float.{nan}
use Rattle.floats.specs.F32.{0f}
use Rattle.grid.specs.Functions.{table}
use Rattle.wave.specs.declared.filters.Svf.{Svf}
use Rattle.wave.specs.declared.filters.Filtered.{Filtered}

-- a filter's state after the first n points
unfoldable pub pass_to : (Float → Svf → Filtered) → List Float → Svf → ℕ → Svf
pass_to step xs s zero = s
pass_to step xs s (suc n) = (step (get_or xs n nan) (pass_to step xs s n)).state

-- after n passes over all of them
unfoldable pub settled_to : (Float → Svf → Filtered) → List Float → Svf → ℕ → Svf
settled_to step xs s zero = s
settled_to step xs s (suc n) = pass_to step xs (settled_to step xs s n) (length xs)

-- point n of the pass that is drawn
abbrev pub drawn_at : (Float → Svf → Filtered) → List Float → Svf → ℕ → Float
drawn_at step xs s n = (step (get_or xs n nan) (pass_to step xs s n)).y

abbrev pub silent : Svf
silent = record { ic1 = 0f; ic2 = 0f }

-- fifteen cycles to settle, then the one drawn
unfoldable pub filtered_of : (Float → Svf → Filtered) → List Float → List Float
filtered_of step xs = table (length xs) (drawn_at step xs (settled_to step xs silent 15))
