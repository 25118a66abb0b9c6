-- What a pair's branches make of a list. Assumes nothing.
use mathlib.Core.Path.{◌≡◌, refl}
use mathlib.Core.Bool.{Bool, true, false}
use lib.Ieee.{Float}
use Rattle.floats.specs.Steps.{when◌then◌else◌}
use Rattle.lanes.specs.Lane.{any_of}
use Rattle.reads.specs.declared.lists.ReadList.{ReadList}
use Rattle.reads.specs.declared.branches.BranchKind.{BranchKind}
use Rattle.reads.specs.declared.branches.Read.{Read}
use Rattle.reads.specs.Branches.{appended, appended_as, kind_of, pushed_weighted, pushed_both}

by_kind : (t : Bool) (r s : Read) (out : ReadList)
    → appended (record { first = r; second = s; kind = when t then BranchKind.Both else BranchKind.Weighted }) out ≡ (when t then pushed_both r s out else pushed_weighted r out)
unfolding appended appended_as when◌then◌else◌
by_kind true r s out = refl
by_kind false r s out = refl

-- a pair's first branch, and its second if that has any weight
pub kind_made : (weight : Float) (r s : Read) (out : ReadList)
    → appended (record { first = r; second = s; kind = kind_of weight }) out ≡ (when any_of weight then pushed_both r s out else pushed_weighted r out)
unfolding kind_of
kind_made weight r s out = by_kind (any_of weight) r s out
