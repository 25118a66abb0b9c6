-- What drives a lane's slots: amounts and sources (`Amounts` of mod.rs). A lane's inputs are lists in just the rows that line 7 of the
-- table asks for. Definitions only.
use Rattle.std.specs.Prelude.{ℕ, ◌+◌, ◌-◌, Bool, true, false, cond, List, ltb, eqb, length, get_or, Float, Option as RustOption, Some, None}
use Rattle.std.proofs.Math.Option.{Option, some, none}
use Rattle.std.specs.Float.{nan}
use Rattle.floats.specs.F32.{◌⊕◌, ◌⊖◌, ◌⊗◌, ◌⊘◌, 0f, 100f, hundredth}
use Rattle.floats.specs.Steps.{◌>>=◌, when◌then◌else◌}
use Rattle.lanes.specs.Lane.{mul_add}
use Rattle.lanes.specs.Maths.{clamp_of}
use Rattle.grid.specs.Cells.{column}
use Rattle.limits.specs.declared.lengths.ControlLengths.{ControlLengths}
use Rattle.voice.specs.declared.control.Control.{Control}
use Rattle.voice.specs.PhaseRun.{whole, is_own}

-- a lane's numbers of a modulation or source, in the block's host rows; an empty slice is absent
unfoldable pub lent_of : ℕ → ℕ → ℕ → List Float → Option (List Float)
lent_of n lane frames xs = cond (eqb (length xs) 0) none (some (column nan n lane frames xs))

-- clamp(amount, 0.0, 100.0) * 0.01
unfoldable pub percent_of : Float → Float
percent_of amount = do
  kept ← clamp_of amount 0f 100f
  kept ⊗ hundredth

-- `Amounts::get` at a host frame: without modulation nothing is added to the base
unfoldable pub amount_at : Float → Option (List Float) → ℕ → Float
amount_at base none host = percent_of base
amount_at base (some xs) host = percent_of (base ⊕ get_or xs host nan)

-- the row after a host frame's; the block's last row repeats
abbrev pub next_row : ℕ → ℕ → ℕ
next_row frames host = cond (ltb (host + 1) frames) (host + 1) (frames - 1)

-- between two host rows
unfoldable pub between_rows : ℕ → ℕ → List Float → ℕ → ℕ → Float
between_rows factor frames xs host sub = do
  toward ← whole sub ⊘ whole factor
  mul_add (get_or xs (next_row frames host) nan ⊖ get_or xs host nan) toward (get_or xs host nan)

-- `Amounts::source`, at the rendered frame `sub` of a host frame's `factor`
unfoldable pub source_at : ℕ → ℕ → List Float → ℕ → ℕ → Float
source_at factor frames xs host sub = when eqb factor 1 then get_or xs host nan else between_rows factor frames xs host sub

abbrev pub is_given : Option (List Float) → Bool
is_given none = false
is_given (some xs) = true

-- what a slot hears, if it has a source: of its own signal `last`, otherwise the source
unfoldable pub heard_at : ℕ → ℕ → ℕ → Option (List Float) → Float → ℕ → ℕ → RustOption Float
heard_at mode factor frames none last host sub = None
heard_at mode factor frames (some xs) last host sub = Some (when is_own mode then last else source_at factor frames xs host sub)

-- a slot's amount and source
unfoldable pub control_at : ℕ → ℕ → ℕ → Float → Option (List Float) → Option (List Float) → Float → ℕ → ℕ → Control
control_at mode factor frames base modulation source last host sub =
    record { amount = amount_at base modulation host; source = heard_at mode factor frames source last host sub }

-- what drives both slots of a lane
pub record Controls : Type 0 where
  pub base0 : Float
  pub base1 : Float
  pub mod0 : Option (List Float)
  pub mod1 : Option (List Float)
  pub source0 : Option (List Float)
  pub source1 : Option (List Float)

-- base, modulation and sources as they are lent, for all lanes
pub record ControlBuffers : Type 0 where
  pub base0 : List Float
  pub base1 : List Float
  pub mod0 : List Float
  pub mod1 : List Float
  pub source0 : List Float
  pub source1 : List Float

abbrev pub control_buffers : List Float → List Float → List Float → List Float → List Float → List Float → ControlBuffers
control_buffers base0 base1 mod0 mod1 source0 source1 =
    record { base0 = base0; base1 = base1; mod0 = mod0; mod1 = mod1; source0 = source0; source1 = source1 }

abbrev pub control_lengths : ControlBuffers → ControlLengths
control_lengths b =
    record {
      base0 = length b.base0;
      base1 = length b.base1;
      mod0 = length b.mod0;
      mod1 = length b.mod1;
      source0 = length b.source0;
      source1 = length b.source1;
    }

-- a lane's numbers in them, in the rows that line 7 asks for
abbrev pub controls_of : ℕ → ℕ → ℕ → ControlBuffers → Controls
controls_of n lane frames b =
    record {
      base0 = get_or b.base0 lane nan;
      base1 = get_or b.base1 lane nan;
      mod0 = lent_of n lane frames b.mod0;
      mod1 = lent_of n lane frames b.mod1;
      source0 = lent_of n lane frames b.source0;
      source1 = lent_of n lane frames b.source1;
    }
