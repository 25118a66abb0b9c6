-- The laws of a block run's numbers on slices. Assumes nothing.
use mathlib.Core.Path.{◌≡◌, sym, ◌∙◌}
use mathlib.Core.List.{List, [], ◌∷◌}
use Prim.Native.Nat.{ℕ, ◌+◌, ◌≤◌}
use native.Mathlib.Omega.{arith}
use lib.ListN.{length, get_or, take, drop, length-take, length-drop}
use lib.Seq.{get_or-take, get_or-drop, ext_get_or}
use lib.Ieee.{Float, nan}
use Rattle.grid.specs.Functions.{table}
use Rattle.grid.proofs.TableLaws.{length_table, get_or-table}
use Rattle.lanes.specs.declared.maths.Numbers.{Numbers}
use Rattle.block.specs.Numbers.{numbers_of}

-- five numbers and eight
part_taken : (xs : List Float) (at n : ℕ) → at + n ≤ length xs → table n (λ i. get_or xs (at + i) nan) ≡ take n (drop at xs)
part_taken xs at n h =
    ext_get_or nan _ _ (length_table n _ ∙ sym (simp (length-take, length-drop) (omega arith)))
    (λ i l. let low = rw length_table at l in get_or-table n _ i nan low ∙ sym (rw (get_or-take, get_or-drop)))

pub numbers_taken : (xs : List Float) → 13 ≤ length xs
    → let at : ℕ → Float = λ i. get_or xs i nan in
    ◌≡◌ {A = Numbers}
    (record {
      sin = at 0 ∷ at 1 ∷ at 2 ∷ at 3 ∷ at 4 ∷ [];
      atan = at 5 ∷ at 6 ∷ at 7 ∷ at 8 ∷ at 9 ∷ at 10 ∷ at 11 ∷ at 12 ∷ [];
    })
    (numbers_of xs)
unfolding numbers_of table
numbers_taken xs h j = record { sin = part_taken xs 0 5 (omega arith) j; atan = part_taken xs 5 8 (omega arith) j }
