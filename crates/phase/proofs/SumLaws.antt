-- What the reads of a list add up to, by the branches that were appended to it. Assumes nothing.
use Prim.Native.Nat.{ℕ}
use mathlib.Core.Path.{◌≡◌, refl, sym, ap, ◌∙◌}
use mathlib.Core.Bool.{Bool, true, false, not, ◌&&◌, true≢false}
use mathlib.Core.List.{List}
use lib.ListN.{replicate}
use lib.Ieee.{Float}
use Rattle.std.specs.Prelude.{Option, Some, None}
use Rattle.floats.specs.F32.{1f, ◌⊕◌, ◌⊗◌}
use Rattle.floats.specs.Steps.{when◌then◌else◌}
use Rattle.reads.specs.declared.lists.ReadList.{ReadList}
use Rattle.reads.specs.declared.branches.BranchKind.{BranchKind}
use Rattle.reads.specs.declared.branches.Branches.{Branches}
use Rattle.reads.specs.Reads.{start_of, empty_of, weighted_of, push_of, move_first, shift_of, outgoing_of, sum_to, read_sum}
use Rattle.reads.specs.Branches.{is_one, is_both, appended_as, appended, Makes}
use Rattle.phase.specs.declared.setting.MapSetting.{MapSetting}
use Rattle.phase.specs.Map.{map_of, mapped, emptied, apply_of}
use Rattle.phase.specs.Sums.{map_if, apply_if, shift_if, sum_of, all_products, read_at, products_after, products_of, sum_one, sum_two}

and_true : (b : Bool) → (b && true) ≡ b
and_true true = refl
and_true false = refl

and_false : (b : Bool) → (b && false) ≡ false
and_false true = refl
and_false false = refl

-- no reads yet
abbrev pub none : ℕ → Bool → ReadList
none like plain = record { word = replicate 4 like; gain = replicate 4 1f; count = 0; weighted = not plain }

abbrev after : List Float → Option ℕ → Bool → Branches → Float → Float
after cycle offset both b first = when both then first ⊕ b.second.gain ⊗ read_at cycle offset b.second.word else first

abbrev product : List Float → Option ℕ → Branches → Float
product cycle offset b = b.first.gain ⊗ read_at cycle offset b.first.word

-- ---- one map's branches
one_by : (every plain : Bool) (offset : Option ℕ) (k : BranchKind) (cycle : List Float) (like : ℕ) (b : Branches)
    → sum_of every cycle (shift_if offset (appended_as k b (none like plain)))
    ≡ (when (not every && plain) && is_one k then read_at cycle offset b.first.word else after cycle offset (is_both k) b (product cycle offset b))
unfolding when◌then◌else◌ shift_if shift_of move_first push_of weighted_of appended_as outgoing_of sum_of all_products read_sum sum_to read_at
one_by true plain None BranchKind.One cycle like b = refl
one_by true plain None BranchKind.Weighted cycle like b = refl
one_by true plain None BranchKind.Both cycle like b = refl
one_by true plain (Some o) BranchKind.One cycle like b = refl
one_by true plain (Some o) BranchKind.Weighted cycle like b = refl
one_by true plain (Some o) BranchKind.Both cycle like b = refl
one_by false true None BranchKind.One cycle like b = refl
one_by false true None BranchKind.Weighted cycle like b = refl
one_by false true None BranchKind.Both cycle like b = refl
one_by false true (Some o) BranchKind.One cycle like b = refl
one_by false true (Some o) BranchKind.Weighted cycle like b = refl
one_by false true (Some o) BranchKind.Both cycle like b = refl
one_by false false None BranchKind.One cycle like b = refl
one_by false false None BranchKind.Weighted cycle like b = refl
one_by false false None BranchKind.Both cycle like b = refl
one_by false false (Some o) BranchKind.One cycle like b = refl
one_by false false (Some o) BranchKind.Weighted cycle like b = refl
one_by false false (Some o) BranchKind.Both cycle like b = refl

pub one_sum : (every plain : Bool) (offset : Option ℕ) (cycle : List Float) (like : ℕ) (b : Branches)
    → sum_of every cycle (shift_if offset (appended b (none like plain))) ≡ sum_one cycle offset (not every && plain) b
unfolding appended sum_one products_of products_after
one_sum every plain offset cycle like b = one_by every plain offset b.kind cycle like b

-- ---- the branches of two, appended to a list whose gains count
abbrev onto : Bool → Branches → ReadList → ReadList
onto both b out = when both then push_of (push_of out b.first.word b.first.gain) b.second.word b.second.gain else push_of out b.first.word b.first.gain

counted : (k : BranchKind) (b : Branches) (out : ReadList) → weighted_of out ≡ out → appended_as k b out ≡ onto (is_both k) b out
unfolding when◌then◌else◌ appended_as
counted BranchKind.One b out e = refl
counted BranchKind.Weighted b out e = rw e
counted BranchKind.Both b out e = rw e

none_counted : (like : ℕ) → weighted_of (none like false) ≡ none like false
unfolding weighted_of
none_counted like = refl

onto_counted : (both : Bool) (like : ℕ) (b : Branches) → weighted_of (onto both b (none like false)) ≡ onto both b (none like false)
unfolding when◌then◌else◌ weighted_of push_of
onto_counted true like b = refl
onto_counted false like b = refl

two_by : (every : Bool) (offset : Option ℕ) (j k : Bool) (cycle : List Float) (like : ℕ) (a b : Branches)
    → sum_of every cycle (shift_if offset (onto k b (onto j a (none like false))))
    ≡ after cycle offset k b (after cycle offset j a (product cycle offset a) ⊕ product cycle offset b)
unfolding when◌then◌else◌ shift_if shift_of move_first push_of outgoing_of sum_of all_products read_sum sum_to read_at
two_by true None true true cycle like a b = refl
two_by true None true false cycle like a b = refl
two_by true None false true cycle like a b = refl
two_by true None false false cycle like a b = refl
two_by true (Some o) true true cycle like a b = refl
two_by true (Some o) true false cycle like a b = refl
two_by true (Some o) false true cycle like a b = refl
two_by true (Some o) false false cycle like a b = refl
two_by false None true true cycle like a b = refl
two_by false None true false cycle like a b = refl
two_by false None false true cycle like a b = refl
two_by false None false false cycle like a b = refl
two_by false (Some o) true true cycle like a b = refl
two_by false (Some o) true false cycle like a b = refl
two_by false (Some o) false true cycle like a b = refl
two_by false (Some o) false false cycle like a b = refl

pub two_sum : (every : Bool) (offset : Option ℕ) (cycle : List Float) (like : ℕ) (a b : Branches)
    → sum_of every cycle (shift_if offset (appended b (appended a (none like false)))) ≡ sum_two cycle offset a b
unfolding appended sum_two products_of products_after
two_sum every offset cycle like a b =
    rw (counted a.kind a (none like false) (none_counted like), counted b.kind b _ (onto_counted (is_both a.kind) like a))
    (two_by every offset (is_both a.kind) (is_both b.kind) cycle like a b)

-- ---- a slot's map on the branches of one read
module _ (sk ak table : List Float) where
  abbrev made : MapSetting → ℕ → Float → ReadList → ReadList
  made m w g out = map_of sk ak table m.slot m.amount m.half w g out

  abbrev applied : MapSetting → ReadList → ReadList
  applied m list = apply_of sk ak table m.slot m.amount m.half list

  started_by : (setting : Option MapSetting) (word : ℕ) → apply_if sk ak table setting (start_of word) ≡ map_if sk ak table setting word (none word true)
  unfolding apply_if map_if apply_of mapped emptied empty_of start_of push_of
  started_by None word = refl
  started_by (Some m) word = refl

  pub started : (setting : Option MapSetting) (word : ℕ) (b : Branches) → Makes b (map_if sk ak table setting word) → apply_if sk ak table setting (start_of word) ≡ appended b (none word true)
  started setting word b e = started_by setting word ∙ sym (e (none word true))

  one_mapped : (k : BranchKind) (m : MapSetting) (like : ℕ) (b : Branches) → is_both k ≡ false → applied m (appended_as k b (none like true)) ≡ made m b.first.word b.first.gain (none b.first.word (is_one k))
  unfolding appended_as apply_of mapped emptied empty_of push_of weighted_of
  one_mapped BranchKind.One m like b e = refl
  one_mapped BranchKind.Weighted m like b e = refl
  one_mapped BranchKind.Both m like b e = absurd (true≢false e)

  two_mapped : (k : BranchKind) (m : MapSetting) (like : ℕ) (b : Branches) → k ≡ BranchKind.Both
      → applied m (appended_as k b (none like true)) ≡ made m b.second.word b.second.gain (made m b.first.word b.first.gain (none b.first.word false))
  unfolding appended_as apply_of mapped emptied empty_of push_of weighted_of
  two_mapped k m like b e = rw e

  -- the sum of the list that slot 1 and then slot 0 make of the read at `word`, by what slot 1 makes of it
  module _ (every : Bool) (cycle : List Float) (offset : Option ℕ) (setting1 : Option MapSetting) (word : ℕ) (reads : Branches) (e : Makes reads (map_if sk ak table setting1 word)) where
    abbrev pub sum : Option MapSetting → Float
    sum setting0 = sum_of every cycle (shift_if offset (apply_if sk ak table setting0 (apply_if sk ak table setting1 (start_of word))))

    -- slot 0 has no map
    pub sum_off : sum_one cycle offset (not every) reads ≡ sum None
    unfolding apply_if
    sum_off =
        rw (← and_true (not every))
        (sym (ap (λ (list : ReadList). sum_of every cycle (shift_if offset list)) (started setting1 word reads e) ∙ one_sum every true offset cycle word reads))

    -- slot 1 makes one read
    sum_one_lem : (m : MapSetting) (first : Branches) → is_both reads.kind ≡ false → Makes first (made m reads.first.word reads.first.gain)
        → sum_one cycle offset (not every && is_one reads.kind) first ≡ sum (Some m)
    unfolding apply_if appended
    sum_one_lem m first k f =
        sym
        (ap (λ (list : ReadList). sum_of every cycle (shift_if offset (applied m list))) (started setting1 word reads e)
        ∙ ap (λ (list : ReadList). sum_of every cycle (shift_if offset list)) (one_mapped reads.kind m word reads k ∙ sym (f (none reads.first.word (is_one reads.kind))))
        ∙ one_sum every (is_one reads.kind) offset cycle reads.first.word first)

    pub sum_plain : (m : MapSetting) (first : Branches) → reads.kind ≡ BranchKind.One → Makes first (made m reads.first.word reads.first.gain) → sum_one cycle offset (not every) first ≡ sum (Some m)
    sum_plain m first k f = rw (k, and_true) at (sum_one_lem m first (ap is_both k) f)

    pub sum_weighted : (m : MapSetting) (first : Branches) → reads.kind ≡ BranchKind.Weighted → Makes first (made m reads.first.word reads.first.gain) → products_of cycle offset first ≡ sum (Some m)
    unfolding sum_one when◌then◌else◌
    sum_weighted m first k f = rw (k, and_false) at (sum_one_lem m first (ap is_both k) f)

    -- slot 1 makes two
    pub sum_two_lem : (m : MapSetting) (first second : Branches) → reads.kind ≡ BranchKind.Both
        → Makes first (made m reads.first.word reads.first.gain) → Makes second (made m reads.second.word reads.second.gain)
        → sum_two cycle offset first second ≡ sum (Some m)
    unfolding apply_if appended
    sum_two_lem m first second k f s =
        sym
        (ap (λ (list : ReadList). sum_of every cycle (shift_if offset (applied m list))) (started setting1 word reads e)
        ∙ ap (λ (list : ReadList). sum_of every cycle (shift_if offset list)) (two_mapped reads.kind m word reads k ∙ rw (s, f))
        ∙ two_sum every offset cycle reads.first.word first second)
