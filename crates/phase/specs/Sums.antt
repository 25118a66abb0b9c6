-- What reads add up to, by the branches that they come in. `offset` is how the reads move on, if they do. Definitions only.
use Rattle.std.specs.Prelude.{ℕ, ◌-◌, Bool, ◌&&◌, Option, Some, None, List, Float}
use Rattle.floats.specs.F32.{◌⊕◌, ◌⊗◌, 1f}
use Rattle.floats.specs.Steps.{when◌then◌else◌}
use Rattle.lanes.specs.Word.{add_words}
use Rattle.reads.specs.declared.lists.ReadList.{ReadList}
use Rattle.reads.specs.declared.branches.Branches.{Branches}
use Rattle.reads.specs.Reads.{push_of, shift_of, outgoing_of, cycle_at, sum_to, read_sum}
use Rattle.reads.specs.Branches.{is_one, is_both}
use Rattle.phase.specs.declared.setting.MapSetting.{MapSetting}
use Rattle.phase.specs.Map.{map_of, apply_of}

-- ---- steps that a slot takes only if it has a map, and an offset
unfoldable pub map_if : List Float → List Float → List Float → Option MapSetting → ℕ → ReadList → ReadList
map_if sk ak table None word out = push_of out word 1f
map_if sk ak table (Some m) word out = map_of sk ak table m.slot m.amount m.half word 1f out

unfoldable pub apply_if : List Float → List Float → List Float → Option MapSetting → ReadList → ReadList
apply_if sk ak table None list = list
apply_if sk ak table (Some m) list = apply_of sk ak table m.slot m.amount m.half list

unfoldable pub shift_if : Option ℕ → ReadList → ReadList
shift_if None list = list
shift_if (Some offset) list = shift_of list offset

-- ---- the sums

-- all of a list's products, from the first on, whether its gains count or not; a list has one read at least (proofs/Some)
unfoldable pub all_products : List Float → ReadList → Float
all_products cycle list = sum_to cycle list.word list.gain (list.count - 1)

-- with every read's gain, or as the list goes out
unfoldable pub sum_of : Bool → List Float → ReadList → Float
sum_of every cycle list = when every then all_products cycle list else read_sum cycle (outgoing_of list)

unfoldable pub read_at : List Float → Option ℕ → ℕ → Float
read_at cycle None word = cycle_at cycle word
read_at cycle (Some offset) word = cycle_at cycle (add_words word offset)

-- the second read's product, if there is one, added to `first`
unfoldable pub products_after : List Float → Option ℕ → Branches → Float → Float
products_after cycle offset b first = when is_both b.kind then first ⊕ b.second.gain ⊗ read_at cycle offset b.second.word else first

unfoldable pub products_of : List Float → Option ℕ → Branches → Float
products_of cycle offset b = products_after cycle offset b (b.first.gain ⊗ read_at cycle offset b.first.word)

-- one map's reads: without gain if neither the read that it was given nor its own has one
unfoldable pub sum_one : List Float → Option ℕ → Bool → Branches → Float
sum_one cycle offset plain b = when plain && is_one b.kind then read_at cycle offset b.first.word else products_of cycle offset b

-- two maps' reads
unfoldable pub sum_two : List Float → Option ℕ → Branches → Branches → Float
sum_two cycle offset a b = products_after cycle offset b (products_of cycle offset a ⊕ b.first.gain ⊗ read_at cycle offset b.first.word)
