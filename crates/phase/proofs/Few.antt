-- A list that a slot's map makes of one with at most four reads has at most four. Assumes nothing.
use Prim.Native.Nat.{ℕ, zero, suc}
use native.Mathlib.Omega.{arith}
use mathlib.Core.List.{List}
use lib.ListN.{get_or}
use lib.Ieee.{Float, nan}
use Rattle.reads.specs.declared.lists.ReadList.{ReadList}
use Rattle.reads.specs.Reads.{weighted_of}
use Rattle.reads.proofs.Few.{Few, push_few, weighted_few}
use Rattle.phase.specs.declared.map.Slot.{Slot}
use Rattle.phase.specs.Map.{map_of, mapped, emptied, apply_of}
use Rattle.phase.proofs.MapLaws.{map_by}

map_few : (sk ak table : List Float) (slot : Slot) (a h : Float) (w : ℕ) (g : Float) (r : ReadList) → Few r → Few (map_of sk ak table slot a h w g r)
map_few sk ak table slot a h w g r f =
    map_by Few g r (λ w. push_few r _ _ f) (λ w k. push_few _ _ _ weighted) (λ w k v l. push_few _ _ _ (push_few _ _ _ weighted)) sk ak table slot a h w
  where
    weighted : Few (weighted_of r)
    weighted = weighted_few r f

mapped_few : (sk ak table : List Float) (slot : Slot) (a h : Float) (ws : List ℕ) (gs : List Float) (r : ReadList) (n : ℕ) → Few r → Few (mapped sk ak table slot a h ws gs r n)
unfolding mapped
mapped_few sk ak table slot a h ws gs r zero f = f
mapped_few sk ak table slot a h ws gs r (suc n) f = map_few sk ak table slot a h (get_or ws n 0) (get_or gs n nan) (mapped sk ak table slot a h ws gs r n) (mapped_few sk ak table slot a h ws gs r n f)

pub apply_few : (sk ak table : List Float) (slot : Slot) (a h : Float) (r : ReadList) → Few (apply_of sk ak table slot a h r)
unfolding apply_of emptied
apply_few sk ak table slot a h r = mapped_few sk ak table slot a h r.word r.gain (emptied r) r.count (record { few = omega arith })
