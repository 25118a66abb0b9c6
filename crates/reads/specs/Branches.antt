-- What a map makes of one read, by the list that it is appended to. Definitions only.
use Rattle.std.specs.Prelude.{ℕ, ◌≡◌, Bool, true, false, Float}
use Rattle.floats.specs.Steps.{when◌then◌else◌}
use Rattle.lanes.specs.Lane.{any_of}
use Rattle.reads.specs.declared.lists.ReadList.{ReadList}
use Rattle.reads.specs.declared.branches.BranchKind.{BranchKind}
use Rattle.reads.specs.declared.branches.Read.{Read}
use Rattle.reads.specs.declared.branches.Branches.{Branches}
use Rattle.reads.specs.Reads.{weighted_of, push_of, push_pair}

-- the first read, with no gain of its own
abbrev pub is_one : BranchKind → Bool
is_one BranchKind.One = true
is_one BranchKind.Weighted = false
is_one BranchKind.Both = false

-- both reads, weighted
abbrev pub is_both : BranchKind → Bool
is_both BranchKind.One = false
is_both BranchKind.Weighted = false
is_both BranchKind.Both = true

unfoldable pub appended_as : BranchKind → Branches → ReadList → ReadList
appended_as BranchKind.One b out = push_of out b.first.word b.first.gain
appended_as BranchKind.Weighted b out = push_of (weighted_of out) b.first.word b.first.gain
appended_as BranchKind.Both b out = push_of (push_of (weighted_of out) b.first.word b.first.gain) b.second.word b.second.gain

unfoldable pub appended : Branches → ReadList → ReadList
appended b out = appended_as b.kind b out

-- a pair's kind, by the weight of its second
unfoldable pub kind_of : Float → BranchKind
kind_of weight = when any_of weight then BranchKind.Both else BranchKind.Weighted

-- appended to any list, the branches do what f does to it
abbrev pub Makes : Branches → (ReadList → ReadList) → Type 0
Makes b f = (out : ReadList) → appended b out ≡ f out

-- ---- the ways that maps end, the list last
abbrev pub pushed : Read → ReadList → ReadList
pushed read out = push_of out read.word read.gain

abbrev pub pushed_weighted : Read → ReadList → ReadList
pushed_weighted read out = push_of (weighted_of out) read.word read.gain

abbrev pub pushed_both : Read → Read → ReadList → ReadList
pushed_both first second out = push_of (push_of (weighted_of out) first.word first.gain) second.word second.gain

abbrev pub pushed_pair : ℕ → Float → ℕ → Float → ReadList → ReadList
pushed_pair a wa b gain out = push_pair out a wa b gain
