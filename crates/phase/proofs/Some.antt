-- A list that slots make of one read has a read. Assumes nothing.
use Prim.Native.Nat.{ℕ, zero, suc, ◌+◌, ◌≤◌}
use native.Mathlib.Omega.{arith}
use mathlib.Core.Path.{◌≡◌, refl}
use mathlib.Core.Bool.{Bool, true, false, cond}
use mathlib.Core.List.{List}
use lib.Dec.{ltb}
use lib.ListN.{set}
use lib.Ieee.{Float}
use borrow.Author.Tests.{ltb-false}
use Rattle.std.specs.Prelude.{Option, Some as Given, None}
use Rattle.reads.specs.declared.lists.ReadList.{ReadList}
use Rattle.reads.specs.Reads.{start_of, push_of}
use Rattle.phase.specs.declared.map.Slot.{Slot}
use Rattle.phase.specs.declared.setting.MapSetting.{MapSetting}
use Rattle.phase.specs.Map.{map_of, mapped, emptied, apply_of}
use Rattle.phase.specs.Sums.{apply_if}
use Rattle.phase.proofs.MapLaws.{map_by}

-- a record, so that the list stands in its type whole
pub record Some (r : ReadList) : Type 0 where
  pub some : 1 ≤ r.count

pub start_some : (w : ℕ) → Some (start_of w)
unfolding start_of
start_some w = record { some = omega arith }

push_some : (r : ReadList) (w : ℕ) (g : Float) → Some (push_of r w g)
unfolding push_of
push_some r w g = record { some = go (ltb r.count 4) refl }
  where
    go : (t : Bool) → ltb r.count 4 ≡ t → 1 ≤ (cond t (record { word = set r.word r.count w; gain = set r.gain r.count g; count = r.count + 1; weighted = r.weighted }) r).count
    go true e = omega arith
    go false e = let h = ltb-false r.count 4 e in omega (arith, h)

module _ (sk ak table : List Float) where
  map_some : (slot : Slot) (a h : Float) (w : ℕ) (g : Float) (r : ReadList) → Some (map_of sk ak table slot a h w g r)
  map_some slot a h w g r = map_by Some g r (λ w. push_some r w g) (λ w k. push_some _ w k) (λ w k v l. push_some _ v l) sk ak table slot a h w

  mapped_some : (slot : Slot) (a h : Float) (ws : List ℕ) (gs : List Float) (r : ReadList) (n : ℕ) → 1 ≤ n → Some (mapped sk ak table slot a h ws gs r n)
  unfolding mapped
  mapped_some slot a h ws gs r zero l = absurd (omega arith)
  mapped_some slot a h ws gs r (suc n) l = map_some _ _ _ _ _ _

  pub some_if : (setting : Option MapSetting) (r : ReadList) → Some r → Some (apply_if sk ak table setting r)
  unfolding apply_if apply_of
  some_if None r p = p
  some_if (Given m) r p = mapped_some m.slot m.amount m.half r.word r.gain (emptied r) r.count p.some
