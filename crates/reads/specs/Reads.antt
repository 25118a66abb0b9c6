-- Read lists: `ReadList` of phase.rs and `LaneReads` of osc/mod.rs. Definitions only.
use Rattle.std.specs.Prelude.{ℕ, zero, suc, ◌+◌, ◌-◌, ◌/◌, ◌%◌, ◌^◌, max, true, false, cond, List, [], ◌∷◌, pos, ltb, eqb, get_or, set, replicate, Float}
use Rattle.std.specs.Float.Ieee as Ieee
use Rattle.std.specs.Float.{nan, binary32}
use Rattle.floats.specs.F32.{◌⊕◌, ◌⊖◌, ◌⊗◌, ◌⊘◌, bits, 1f, ½f}
use Rattle.floats.specs.Steps.{◌>>=◌, when◌then◌else◌}
use Rattle.lanes.specs.Lane.{any_of}
use Rattle.lanes.specs.Maths.{above_of, pick_of}
use Rattle.lanes.specs.Word.{add_words, pick_word}
use Rattle.reads.specs.declared.lists.ReadList.{ReadList}
use Rattle.reads.specs.declared.lists.LaneReads.{LaneReads}

-- `LaneReads::one`
unfoldable pub one_read : ℕ → LaneReads
one_read phase = record { phase = replicate 4 phase; gain = replicate 4 1f; count = 0 }

unfoldable pub start_of : ℕ → ReadList
start_of word = record { word = replicate 4 word; gain = replicate 4 1f; count = 1; weighted = false }

unfoldable pub empty_of : ℕ → ReadList
empty_of like = record { word = replicate 4 like; gain = replicate 4 1f; count = 0; weighted = false }

-- self.weighted = true
unfoldable pub weighted_of : ReadList → ReadList
weighted_of r = record { word = r.word; gain = r.gain; count = r.count; weighted = true }

-- if self.count < MAX_READS { self.word[self.count] = word; .. }
unfoldable pub push_of : ReadList → ℕ → Float → ReadList
push_of r word gain =
    cond (ltb r.count 4)
    (record { word = set r.word r.count word; gain = set r.gain r.count gain; count = r.count + 1; weighted = r.weighted })
    r

-- the order in a pair: 1 where a, weighted wa, comes first, else 0
unfoldable pub a_first : Float → Float
a_first wa = above_of (wa ⊖ ½f)

-- the heavier first, and the lighter only if it has any weight
unfoldable pub push_pair : ReadList → ℕ → Float → ℕ → Float → ReadList
push_pair r a wa b gain = do
  wb ← 1f ⊖ wa
  mask ← a_first wa
  first ← pick_word mask b a
  second ← pick_word mask a b
  firstWeight ← pick_of mask wb wa
  secondWeight ← 1f ⊖ firstWeight
  r₁ ← weighted_of r
  r₂ ← push_of r₁ first (firstWeight ⊗ gain)
  when any_of secondWeight then push_of r₂ second (secondWeight ⊗ gain) else r₂

-- the first n words moved on by the offset
unfoldable pub move_first : ℕ → ℕ → List ℕ → List ℕ
move_first offset zero words = words
move_first offset (suc n) [] = []
move_first offset (suc n) (w ∷ words) = add_words w offset ∷ move_first offset n words

-- the words in use, of a list of none the first
unfoldable pub shift_of : ReadList → ℕ → ReadList
shift_of list offset = record { word = move_first offset (max list.count 1) list.word; gain = list.gain; count = list.count; weighted = list.weighted }

-- an unweighted list goes out with count 0
unfoldable pub outgoing_of : ReadList → LaneReads
outgoing_of r = record { phase = r.word; gain = r.gain; count = cond r.weighted r.count 0 }

-- how far a word lies past its entry, in entries: its low 21 bits divided by 2 ^ 21
unfoldable pub fraction_of : ℕ → Float
fraction_of word = Ieee.of_int binary32 (pos (word % 2 ^ 21)) ⊘ bits 0x4a00_0000

-- the lent cycle at a word, between entry word / 2 ^ 21, rounded down, and the next; the one after 2,047 is entry 0
unfoldable pub cycle_at : List Float → ℕ → Float
cycle_at cycle word = do
  fraction ← fraction_of word
  first ← get_or cycle (word / 2 ^ 21) nan
  next ← get_or cycle ((word / 2 ^ 21 + 1) % 2048) nan
  first ⊕ (next ⊖ first) ⊗ fraction

-- the product of read i
abbrev pub product_at : List Float → List ℕ → List Float → ℕ → Float
product_at cycle words gains i = get_or gains i nan ⊗ cycle_at cycle (get_or words i 0)

-- the products of reads 0 to n, added up in that order
unfoldable pub sum_to : List Float → List ℕ → List Float → ℕ → Float
sum_to cycle words gains zero = product_at cycle words gains 0
sum_to cycle words gains (suc n) = sum_to cycle words gains n ⊕ product_at cycle words gains (suc n)

unfoldable pub read_sum : List Float → LaneReads → Float
read_sum cycle reads = cond (eqb reads.count 0) (cycle_at cycle (get_or reads.phase 0 0)) (sum_to cycle reads.phase reads.gain (reads.count - 1))
