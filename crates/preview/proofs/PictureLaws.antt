-- How long a picture is. Assumes nothing.
use mathlib.Core.Path.{◌≡◌, refl, ◌∙◌}
use mathlib.Core.Bool.{Bool, true, false}
use mathlib.Core.List.{List}
use Prim.Native.Nat.{ℕ}
use lib.ListN.{length}
use lib.Ieee.{Float}
use Rattle.floats.specs.Steps.{◌>>=◌, when◌then◌else◌}
use Rattle.grid.proofs.TableLaws.{length_table}
use Rattle.lanes.specs.declared.maths.Numbers.{Numbers}
use Rattle.phase.specs.declared.map.Slot.{Slot}
use Rattle.preview.specs.Filtering.{filtered_of}
use Rattle.preview.specs.Shaping.{distorted_of, settled_of, shaped_of}
use Rattle.preview.specs.Picture.{read_of, picture_of}

length_if : (t : Bool) (xs ys : List Float) (n : ℕ) → length xs ≡ n → length ys ≡ n → length (when t then xs else ys) ≡ n
unfolding when◌then◌else◌
length_if true xs ys n h k = h
length_if false xs ys n h k = k

module _ (sk : List Float) (slot : Slot) (a increment : Float) (xs : List Float) where
  length_settled : length (settled_of sk slot a increment xs) ≡ length xs
  unfolding settled_of filtered_of ◌>>=◌
  length_settled = length_table (length xs) _

  length_distorted : length (distorted_of sk slot.mode a xs) ≡ length xs
  unfolding distorted_of
  length_distorted = length_table (length xs) _

  length_shaped : length (shaped_of sk slot a increment xs) ≡ length xs
  unfolding shaped_of
  length_shaped = length_if _ _ _ _ (length_if _ _ _ _ length_settled length_distorted) refl

pub length_picture : (numbers : Numbers) (curve cycle : List Float) (slot0 slot1 : Slot) (percent0 percent1 : Float) (points : ℕ)
    → length (picture_of numbers curve cycle slot0 slot1 percent0 percent1 points) ≡ points
unfolding picture_of read_of ◌>>=◌
length_picture numbers curve cycle slot0 slot1 percent0 percent1 points =
    length_shaped numbers.sin slot1 _ _ _ ∙ length_shaped numbers.sin slot0 _ _ _ ∙ length_table points _
