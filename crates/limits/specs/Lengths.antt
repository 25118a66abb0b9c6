-- The lengths that document 01 asks of buffers ("Lengths"), with n lanes, and lines 7 and 8 of its table of refusals: a buffer that is shorter is
-- too short. Definitions only.
use Rattle.std.specs.Prelude.{◌≡◌, Bool, not, ◌||◌, ◌&&◌, ℕ, ◌+◌, ◌-◌, ◌*◌, ◌/◌, ◌≤◌, ltb, eqb}
use Rattle.limits.specs.declared.lengths.ControlLengths.{ControlLengths}

-- SUB_BLOCK: the host frames that share a row of a prepared span
abbrev pub sub_block : ℕ
sub_block = 32

-- the sub-blocks of a block, the last of which may be shorter: the rows of each prepared span
unfoldable pub spans_of : ℕ → ℕ
spans_of frames = (frames + (sub_block - 1)) / sub_block

-- ---- lengths

-- a slot's base
abbrev pub base_length : ℕ → ℕ
base_length n = n

-- a number for each host frame: modulation, source, output
abbrev pub host_length : ℕ → ℕ → ℕ
host_length frames n = frames * n

-- a number for each rendered frame: phase words and steps, and, with the frames of a range, work
abbrev pub rendered_length : ℕ → ℕ → ℕ → ℕ
rendered_length frames factor n = frames * factor * n

-- a prepared span
abbrev pub span_length : ℕ → ℕ → ℕ
span_length frames n = spans_of frames * n

-- the remap curve, the cycle
abbrev pub curve_length : ℕ
curve_length = 1025

abbrev pub cycle_length : ℕ
cycle_length = 2048

-- coefficients of three designs, 12 each, sine and arctangent numbers, 5 and 8: where these come by value, all are there
abbrev pub coefs_length : ℕ
coefs_length = 36

abbrev pub numbers_length : ℕ
numbers_length = 13

-- filter pairs, two numbers a slot, FM carry, one a slot, `last`, decimator state, 24 cells for each of three stages
abbrev pub pairs_length : ℕ → ℕ
pairs_length n = 4 * n

abbrev pub carry_length : ℕ → ℕ
carry_length n = 2 * n

abbrev pub last_length : ℕ → ℕ
last_length n = n

abbrev pub state_length : ℕ → ℕ
state_length n = 72 * n

-- ---- lines 7 and 8

-- a buffer of `have` numbers where `need` are asked for
abbrev pub shorter : ℕ → ℕ → Bool
shorter need have = ltb have need

-- a modulation or a source; an empty one is absent
abbrev pub short_lent : ℕ → ℕ → Bool
short_lent need have = not (eqb have 0) && shorter need have

-- base, modulation and sources of both slots
abbrev pub short_controls : ℕ → ℕ → ControlLengths → Bool
short_controls frames n l =
    shorter (base_length n) l.base0 || shorter (base_length n) l.base1
    || short_lent (host_length frames n) l.mod0 || short_lent (host_length frames n) l.mod1
    || short_lent (host_length frames n) l.source0 || short_lent (host_length frames n) l.source1

-- ---- what an accepted call has

-- a modulation or source is absent or holds what is asked for
pub record Holds (need have : ℕ) : Type 0 where
  pub holds : (have ≡ 0 → ⊥) → need ≤ have

pub record ControlsHeld (frames n : ℕ) (l : ControlLengths) : Type 0 where
  pub base0 : n ≤ l.base0
  pub base1 : n ≤ l.base1
  pub mod0 : Holds (host_length frames n) l.mod0
  pub mod1 : Holds (host_length frames n) l.mod1
  pub source0 : Holds (host_length frames n) l.source0
  pub source1 : Holds (host_length frames n) l.source1
