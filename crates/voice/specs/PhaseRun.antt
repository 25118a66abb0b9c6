-- The phase stage of one lane at one rendered frame: `PhaseRun` of mod.rs, its carry in and out by value. `a` is a slot's amount, 0 to 1,
-- s its source's value, `increment` the phase's step, in cycles a rendered frame. Definitions only.
use Rattle.std.specs.Prelude.{ℕ, ◌*◌, Bool, true, false, ◌||◌, List, pos, Float, Option, Some, None, Result, Ok, Err}
use Rattle.std.specs.Float.Ieee as Ieee
use Rattle.std.specs.Float.{binary32}
use Rattle.floats.specs.F32.{◌⊕◌, ◌⊖◌, ◌⊗◌, ◌⊘◌, bits, 2f, ½f}
use Rattle.floats.specs.Steps.{◌>>=◌, when◌then◌else◌}
use Rattle.floats.specs.Floor.{floor_of}
use Rattle.floats.specs.Exp2.{exp2_of}
use Rattle.lanes.specs.Lane.{max_of}
use Rattle.lanes.specs.Word.{signed_of, to_word}
use Rattle.std.specs.Option.{option_map}
use Rattle.limits.specs.declared.refusal.Refusal.{Refusal}
use Rattle.modes.specs.declared.facts.Source.{Source}
use Rattle.modes.specs.declared.facts.Source.TheVariants.{Osc1, Osc2, Noise, Sub, Filter1, Filter2, Own}
use Rattle.modes.specs.declared.facts.FmType.{FmType}
use Rattle.modes.specs.declared.facts.FmType.TheVariants.{ThruZero, Exponential, Linear}
use Rattle.modes.specs.declared.facts.Modulated.{Modulated}
use Rattle.modes.specs.declared.facts.Modulated.TheVariants.{Fm, PhaseDistortion, Am, Ring}
use Rattle.modes.specs.declared.facts.Stage.{Stage}
use Rattle.modes.specs.Stage.{is_phase}
use Rattle.modes.specs.Table.{source_of, stage_of, modulated_of}
use Rattle.reads.specs.declared.lists.ReadList.{ReadList}
use Rattle.reads.specs.Reads.{one_read, start_of, shift_of, outgoing_of}
use Rattle.phase.specs.declared.map.Slot.{Slot}
use Rattle.phase.specs.Map.{apply_of}
use Rattle.wave.specs.Slot.{is_modulated}
use Rattle.voice.specs.declared.control.Control.{Control}
use Rattle.voice.specs.declared.phase_run.Offset.{Offset}
use Rattle.voice.specs.declared.phase_run.Moved.{Moved}
use Rattle.voice.specs.declared.phase_run.Reads.{Reads}

-- n as f32
abbrev pub whole : ℕ → Float
whole n = Ieee.of_int binary32 (pos n)

abbrev pub says_phase : Result Stage Refusal → Bool
says_phase (Ok s) = is_phase s
says_phase (Err _) = false

-- self.on[slot]
unfoldable pub in_phase : ℕ → Bool
in_phase mode = says_phase (stage_of mode)

abbrev pub says_own : Result (Option Source) Refusal → Bool
says_own (Ok (Some Own)) = true
says_own (Ok (Some Osc1)) = false
says_own (Ok (Some Osc2)) = false
says_own (Ok (Some Noise)) = false
says_own (Ok (Some Sub)) = false
says_own (Ok (Some Filter1)) = false
says_own (Ok (Some Filter2)) = false
says_own (Ok None) = false
says_own (Err _) = false

-- mode.source() == Some(Source::Own)
unfoldable pub is_own : ℕ → Bool
is_own mode = says_own (source_of mode)

-- 2.0 * LN_2: 1.3862944
abbrev pub two_ln2 : Float
two_ln2 = bits 0x3fb1_7218

-- (s.exp2() - (-s).exp2()) / (2.0 * LN_2)
unfoldable pub fm_exponential : Float → Float
fm_exponential s = do
  up ← exp2_of s
  down ← exp2_of (Ieee.neg s)
  (up ⊖ down) ⊘ two_ln2

-- FM_MAX_HZ: 83,750
abbrev pub fm_max_hz : Float
fm_max_hz = bits 0x47a3_9300

-- FM_MAX_HZ / self.rate, the rate being the host's times the factor
unfoldable pub fm_scale : ℕ → ℕ → Float
fm_scale rate factor = fm_max_hz ⊘ whole (rate * factor)

-- a * a * a * a * (FM_MAX_HZ / self.rate) * s
unfoldable pub fm_cycles : Float → Float → Float → Float
fm_cycles a scale s = a ⊗ a ⊗ a ⊗ a ⊗ scale ⊗ s

-- the FM offset carried on by `cycles`, wrapped to ±½ cycle
unfoldable pub carried_on : Float → Float → Offset
carried_on carry cycles = do
  sum ← carry ⊕ cycles
  down ← floor_of (sum ⊕ ½f)
  carried ← sum ⊖ down
  word ← to_word carried
  record { word = word; carry = carried }

-- match kind: the source's value scaled, and linear FM kept from moving backwards
unfoldable pub fm_offset : FmType → Float → Float → Float → Float → Float → Offset
fm_offset ThruZero a s scale increment carry = do
  cycles ← fm_cycles a scale s
  carried_on carry cycles
fm_offset Exponential a s scale increment carry = do
  scaled ← fm_exponential s
  cycles ← fm_cycles a scale scaled
  carried_on carry cycles
fm_offset Linear a s scale increment carry = do
  cycles ← fm_cycles a scale s
  kept ← max_of cycles (Ieee.neg increment)
  carried_on carry kept

-- match modulated; PD_MAX_CYCLES is one half
abbrev pub offset_by : Float → Float → Float → Float → Float → Result (Option Modulated) Refusal → Offset
offset_by a s scale increment carry (Ok (Some (Fm kind))) = fm_offset kind a s scale increment carry
offset_by a s scale increment carry (Ok (Some PhaseDistortion)) = record { word = to_word (a ⊗ ½f ⊗ s); carry = carry }
offset_by a s scale increment carry (Ok (Some Am)) = record { word = 0; carry = carry }
offset_by a s scale increment carry (Ok (Some Ring)) = record { word = 0; carry = carry }
offset_by a s scale increment carry (Ok None) = record { word = 0; carry = carry }
offset_by a s scale increment carry (Err _) = record { word = 0; carry = carry }

-- `offset_of`, for a slot that hears s
unfoldable pub offset_of : ℕ → Float → Float → Float → Float → Float → Offset
offset_of mode a s scale increment carry = offset_by a s scale increment carry (modulated_of mode)

-- what an inter-oscillator mode hears: self.sources[slot] if self.modulated[slot]
abbrev pub heard_of : ℕ → Control → Option Float
heard_of mode control = when is_modulated mode then control.source else None

-- a slot's offset, if it hears anything
unfoldable pub offset_if : ℕ → Control → Float → Float → Float → Option Offset
offset_if mode control scale increment carry = option_map (λ s. offset_of mode control.amount s scale increment carry) (heard_of mode control)

-- the list moved on by the offset
abbrev pub moved_by : Option Offset → ReadList → Float → Moved
moved_by None list carry = record { list = list; carry = carry }
moved_by (Some offset) list carry = record { list = shift_of list offset.word; carry = offset.carry }

unfoldable pub moved_of : ℕ → Control → Float → Float → ReadList → Float → Moved
moved_of mode control scale increment list carry = moved_by (offset_if mode control scale increment carry) list carry

-- one slot's map, if it is in the phase stage
unfoldable pub map_slot : List Float → List Float → List Float → Slot → Control → Float → ReadList → ReadList
map_slot sk ak curve slot control h list = when in_phase slot.mode then apply_of sk ak curve slot control.amount h list else list

-- increment * (TRANSITION * 0.5 * factor as f32): half the width of an edge. TRANSITION, 2, is in host samples, the increment is for a
-- rendered one
unfoldable pub half_width : Float → ℕ → Float
half_width increment factor = increment ⊗ (2f ⊗ ½f ⊗ whole factor)

-- `reads_of`: slot 1's map, slot 0's with half width times `inner`, slot 1's offset, slot 0's
unfoldable pub list_of : List Float → List Float → List Float → Slot → Slot → ℕ → Float → Control → Control → Float → ℕ → Float → Float → Float → Reads
list_of sk ak curve slot0 slot1 factor scale control0 control1 inner word increment fm0 fm1 = do
  h ← half_width increment factor
  start ← start_of word
  list1 ← map_slot sk ak curve slot1 control1 h start
  list0 ← map_slot sk ak curve slot0 control0 (h ⊗ inner) list1
  moved1 ← moved_of slot1.mode control1 scale increment list0 fm1
  moved0 ← moved_of slot0.mode control0 scale increment moved1.list fm0
  out ← outgoing_of moved0.list
  record { reads = out; fm0 = moved0.carry; fm1 = moved1.carry }

-- `reads_lane`; increment as i32 as f32 * PER_CYCLE is `signed_of`
unfoldable pub reads_of : List Float → List Float → List Float → Slot → Slot → ℕ → Float → Control → Control → Float → ℕ → ℕ → Float → Float → Reads
reads_of sk ak curve slot0 slot1 factor scale control0 control1 inner word step fm0 fm1 =
    when in_phase slot0.mode || in_phase slot1.mode
    then (do
      increment ← signed_of step
      list_of sk ak curve slot0 slot1 factor scale control0 control1 inner word increment fm0 fm1)
    else record { reads = one_read word; fm0 = fm0; fm1 = fm1 }
