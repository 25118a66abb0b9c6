-- The arms of `map` of phase.rs, and `apply`. `sk` and `ak` are the sine and arctangent numbers, `table` the lent curve,
-- `a` the amount, 0 to 1, h the crossfade's half width, in cycles. Definitions only.
use Rattle.std.specs.Prelude.{ℕ, zero, suc, ◌^◌, List, [], ◌∷◌, get_or, Float}
use Rattle.std.specs.Float.Ieee as Ieee
use Rattle.std.specs.Float.{nan}
use Rattle.floats.specs.F32.{◌⊕◌, ◌⊖◌, ◌⊗◌, ◌⊘◌, 0f, 1f, 2f, 4f, ½f, ¼f, 1½f, tau}
use Rattle.floats.specs.Steps.{◌>>=◌}
use Rattle.floats.specs.Floor.{floor_of}
use Rattle.lanes.specs.Lane.{mul_add, min_of, max_of}
use Rattle.lanes.specs.Maths.{above_of, pick_of, clamp_of, smoothstep_of, sin_cycles, cos_cycles, atan_of}
use Rattle.lanes.specs.Word.{add_words, signed_of, to_word, lookup_of}
use Rattle.modes.specs.Mode.{number_of, Sync, PinchIn, PinchOut, Pinch, PulseWidth, LeanRight, LeanLeft, Lean, Flip, Mirror, RemapDrawn, RemapMirrored, RemapSine, RemapQuad, Quantise, OddEven}
use Rattle.modes.specs.Choice.{◌⇒◌, case_of}
use Rattle.reads.specs.declared.lists.ReadList.{ReadList}
use Rattle.reads.specs.Reads.{empty_of, weighted_of, push_of, push_pair}
use Rattle.slope.specs.Strengths.{lean_max, pulse_max, pinch_strength, lean_strength}
use Rattle.phase.specs.declared.map.Slot.{Slot}
use Rattle.phase.specs.Edge.{frac1pi, unit_of, wrap_of, smooth_box, lean_offset, remap_of}
use Rattle.phase.specs.Power.{ratio_of}
use Rattle.phase.specs.Quantise.{quantise_of}

-- Mode::Sync
unfoldable pub sync_map : Float → Float → Float → ℕ → Float → ReadList → ReadList
sync_map character a h word gain out = do
  ratio ← ratio_of a
  t ← signed_of word
  after ← to_word (ratio ⊗ t)
  whole ← to_word ratio
  before ← add_words after whole
  soft ← clamp_of character 0f 1f
  wide ← max_of h (½f ⊗ soft)
  h' ← min_of wide ½f
  weight ← smoothstep_of ((t ⊕ h') ⊘ (2f ⊗ h'))
  push_pair out after weight before gain

-- Mode::PinchIn | Mode::PinchOut | Mode::Pinch
unfoldable pub pinch_map : List Float → List Float → ℕ → Float → ℕ → Float → ReadList → ReadList
pinch_map sk ak mode a word gain out = do
  strength ← pinch_strength mode a
  u ← unit_of word
  x ← u ⊗ 2f
  s ← sin_cycles sk x
  k ← cos_cycles sk x
  angle ← atan_of ak (strength ⊗ s ⊘ mul_add strength k 1f)
  offset ← Ieee.neg angle ⊗ (½f ⊗ frac1pi)
  moved ← to_word offset
  read ← add_words word moved
  push_of out read gain

-- Mode::LeanRight | Mode::LeanLeft | Mode::Lean
unfoldable pub lean_map : List Float → List Float → ℕ → Float → ℕ → Float → ReadList → ReadList
lean_map sk ak mode a word gain out = do
  beta ← lean_strength mode a
  u ← unit_of word
  offset ← lean_offset sk ak u beta
  moved ← to_word offset
  read ← add_words word moved
  push_of out read gain

-- Mode::PulseWidth
unfoldable pub pulse_width_map : Float → Float → ℕ → Float → ReadList → ReadList
pulse_width_map a h word gain out = do
  length ← 1f ⊖ a ⊗ pulse_max
  centre ← length ⊗ ½f
  u ← unit_of word
  v ← wrap_of (u ⊖ centre)
  squeezed ← to_word ((centre ⊕ v) ⊘ length)
  weight ← smooth_box v centre h
  push_pair out squeezed weight 0 gain

-- Mode::Flip
unfoldable pub flip_map : Float → Float → ℕ → Float → ReadList → ReadList
flip_map a h word gain out = do
  halfLength ← a ⊗ ½f
  u ← unit_of word
  v ← wrap_of (u ⊖ (1f ⊖ halfLength))
  inverted ← smooth_box v halfLength h
  out₁ ← weighted_of out
  push_of out₁ word (gain ⊗ (1f ⊖ 2f ⊗ inverted))

-- Mode::Mirror
unfoldable pub mirror_map : List Float → List Float → Float → Float → ℕ → Float → ReadList → ReadList
mirror_map sk ak a h word gain out = do
  beta ← Ieee.neg a ⊗ lean_max
  u ← unit_of word
  v ← wrap_of (u ⊖ ¼f)
  forwardAt ← (¼f ⊕ v) ⊗ 2f
  backwardAt ← 1½f ⊖ v ⊗ 2f
  forwardBy ← lean_offset sk ak forwardAt beta
  forward ← (forwardAt ⊕ forwardBy) ⊗ ½f
  backwardBy ← lean_offset sk ak backwardAt beta
  backward ← (backwardAt ⊕ backwardBy) ⊗ ½f
  weight ← smooth_box v ¼f h
  forwardRead ← to_word forward
  backwardRead ← to_word backward
  push_pair out forwardRead weight backwardRead gain

-- Mode::OddEven: always two reads
unfoldable pub odd_even_map : Float → ℕ → Float → ReadList → ReadList
odd_even_map a word gain out = do
  odd ← min_of (2f ⊗ (1f ⊖ a)) 1f
  even ← min_of (2f ⊗ a) 1f
  out₁ ← weighted_of out
  out₂ ← push_of out₁ word (gain ⊗ (odd ⊕ even) ⊗ ½f)
  read ← add_words word (2 ^ 31)
  push_of out₂ read (gain ⊗ (even ⊖ odd) ⊗ ½f)

-- Mode::RemapDrawn
unfoldable pub remap_drawn_map : List Float → Float → ℕ → Float → ReadList → ReadList
remap_drawn_map table a word gain out = do
  u ← unit_of word
  y ← lookup_of table u
  moved ← to_word (a ⊗ (y ⊖ u))
  read ← add_words word moved
  push_of out read gain

-- Mode::RemapMirrored
unfoldable pub remap_mirrored_map : List Float → Float → ℕ → Float → ReadList → ReadList
remap_mirrored_map table a word gain out = do
  u ← unit_of word
  second ← above_of (u ⊖ ½f)
  x ← pick_of second (u ⊗ 2f) (2f ⊖ u ⊗ 2f)
  y₀ ← remap_of table a x
  y ← y₀ ⊗ ½f
  picked ← pick_of second y (1f ⊖ y)
  read ← to_word picked
  push_of out read gain

-- Mode::RemapQuad
unfoldable pub remap_quad_map : List Float → Float → ℕ → Float → ReadList → ReadList
remap_quad_map table a word gain out = do
  u₀ ← unit_of word
  u ← u₀ ⊗ 4f
  part ← floor_of u
  y₀ ← remap_of table a (u ⊖ part)
  y ← (part ⊕ y₀) ⊗ ¼f
  read ← to_word y
  push_of out read gain

-- Mode::RemapSine
unfoldable pub remap_sine_map : List Float → Float → ℕ → Float → ReadList → ReadList
remap_sine_map sk a word gain out = do
  u ← unit_of word
  s ← sin_cycles sk u
  offset ← Ieee.neg a ⊗ s ⊗ (1f ⊘ tau)
  moved ← to_word offset
  read ← add_words word moved
  push_of out read gain

-- one read through a slot's map; every other mode keeps it
unfoldable pub map_of : List Float → List Float → List Float → Slot → Float → Float → ℕ → Float → ReadList → ReadList
map_of sk ak table slot a h word gain out =
    let mode = slot.mode in
    case_of mode
    ((number_of Sync ⇒ sync_map slot.character a h word gain out) ∷
    (number_of PinchIn ⇒ pinch_map sk ak mode a word gain out) ∷
    (number_of PinchOut ⇒ pinch_map sk ak mode a word gain out) ∷
    (number_of Pinch ⇒ pinch_map sk ak mode a word gain out) ∷
    (number_of PulseWidth ⇒ pulse_width_map a h word gain out) ∷
    (number_of LeanRight ⇒ lean_map sk ak mode a word gain out) ∷
    (number_of LeanLeft ⇒ lean_map sk ak mode a word gain out) ∷
    (number_of Lean ⇒ lean_map sk ak mode a word gain out) ∷
    (number_of Flip ⇒ flip_map a h word gain out) ∷
    (number_of Mirror ⇒ mirror_map sk ak a h word gain out) ∷
    (number_of RemapDrawn ⇒ remap_drawn_map table a word gain out) ∷
    (number_of RemapMirrored ⇒ remap_mirrored_map table a word gain out) ∷
    (number_of RemapSine ⇒ remap_sine_map sk a word gain out) ∷
    (number_of RemapQuad ⇒ remap_quad_map table a word gain out) ∷
    (number_of Quantise ⇒ quantise_of a h word gain out) ∷
    (number_of OddEven ⇒ odd_even_map a word gain out) ∷
    [])
    (push_of out word gain)

-- out after the first n of the reads went through the slot's map
unfoldable pub mapped : List Float → List Float → List Float → Slot → Float → Float → List ℕ → List Float → ReadList → ℕ → ReadList
mapped sk ak table slot a h words gains out zero = out
mapped sk ak table slot a h words gains out (suc n) = map_of sk ak table slot a h (get_or words n 0) (get_or gains n nan) (mapped sk ak table slot a h words gains out n)

-- the list that `apply` starts from: no reads, its words the first word of the list before, weighted as that is
unfoldable pub emptied : ReadList → ReadList
emptied list = record { word = (empty_of (get_or list.word 0 0)).word; gain = (empty_of (get_or list.word 0 0)).gain; count = 0; weighted = list.weighted }

unfoldable pub apply_of : List Float → List Float → List Float → Slot → Float → Float → ReadList → ReadList
apply_of sk ak table slot a h list = mapped sk ak table slot a h list.word list.gain (emptied list) list.count
