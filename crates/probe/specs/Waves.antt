-- A slot on one sample, and over a run of samples. `sk` are the sine's numbers. Definitions only.
use Rattle.std.specs.Prelude.{ℕ, zero, suc, min, Option, Some, None, cond, List, ltb, eqb, length, get_or, set, Float}
use Rattle.std.specs.Float.{nan}
use Rattle.wave.specs.declared.filters.Svf.{Svf}
use Rattle.wave.specs.declared.filters.Filtered.{Filtered}
use Rattle.wave.specs.Slot.{setting_of, shape_of}

-- what a slot hears: nothing where `sourced` is 0
unfoldable pub heard_of : ℕ → Float → Option Float
heard_of sourced source = cond (eqb sourced 0) None (Some source)

-- the slot's setting, and the sample shaped by it
unfoldable pub slot_of : List Float → ℕ → Float → Float → ℕ → Float → Float → Float → Svf → Filtered
slot_of sk mode a character sourced source increment x state = shape_of sk mode (setting_of mode a character (heard_of sourced source)) increment x state

-- a state's first two cells, and the state put into them
unfoldable pub start_in : List Float → Svf
start_in cells = record { ic1 = get_or cells 0 nan; ic2 = get_or cells 1 nan }

abbrev pub stored_in : List Float → Svf → List Float
stored_in cells s = set (set cells 0 s.ic1) 1 s.ic2

-- the state after the first n samples
unfoldable pub state_after : (Float → Svf → Filtered) → List Float → Svf → ℕ → Svf
state_after slot xs start zero = start
state_after slot xs start (suc n) = (slot (get_or xs n nan) (state_after slot xs start n)).state

-- the k-th sample shaped
unfoldable pub shaped_at : (Float → Svf → Filtered) → List Float → Svf → ℕ → Float
shaped_at slot xs start k = (slot (get_or xs k nan) (state_after slot xs start k)).y

unfoldable pub shape_length : ℕ → ℕ → ℕ → ℕ
shape_length xs out state = cond (ltb state 2) 0 (min xs out)

-- the cells after n samples: those of no state are kept
unfoldable pub end_of : (Float → Svf → Filtered) → List Float → List Float → ℕ → List Float
end_of slot xs cells n = cond (ltb (length cells) 2) cells (stored_in cells (state_after slot xs (start_in cells) n))
