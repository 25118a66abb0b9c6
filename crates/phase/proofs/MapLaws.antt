-- What every map does to a list: it pushes one read with the gain that it was given, or one or two whose gains count. Assumes nothing.
use Prim.Native.Nat.{ℕ}
use mathlib.Core.Bool.{Bool, true, false}
use mathlib.Core.List.{List, [], ◌∷◌}
use lib.Dec.{eqb}
use lib.Ieee.{Float}
use Rattle.floats.specs.Steps.{◌>>=◌, when◌then◌else◌}
use Rattle.modes.specs.Choice.{Case, ◌⇒◌, case_of}
use Rattle.reads.specs.declared.lists.ReadList.{ReadList}
use Rattle.reads.specs.Reads.{weighted_of, push_of, push_pair}
use Rattle.reads.proofs.Few.{either}
use Rattle.phase.specs.declared.map.Slot.{Slot}
use Rattle.phase.specs.Quantise.{quantise_of}
use Rattle.phase.specs.Map.{sync_map, pinch_map, lean_map, pulse_width_map, flip_map, mirror_map, odd_even_map, remap_drawn_map, remap_mirrored_map, remap_quad_map, remap_sine_map, map_of}

-- every case of a choice
data Each (P : ReadList → Type 0) : List (Case ReadList) → Type 0 where
  none : Each P []
  more : {k : ℕ} {v : ReadList} {cs : List (Case ReadList)} → P v → Each P cs → Each P ((k ⇒ v) ∷ cs)

case_each : (P : ReadList → Type 0) (x : ℕ) (cs : List (Case ReadList)) (d : ReadList) → Each P cs → P d → P (case_of x cs d)
unfolding case_of
case_each P x [] d e h = h
case_each P x ((k ⇒ v) ∷ cs) d (more p e) h = either P (eqb x k) v (case_of x cs d) (λ t. p) (case_each P x cs d e h)

if_each : (P : ReadList → Type 0) (t : Bool) (x y : ReadList) → P x → P y → P (when t then x else y)
unfolding when◌then◌else◌
if_each P true x y p q = p
if_each P false x y p q = q

-- ---- what holds of the list in each of these three ways holds of the map's
module _ (P : ReadList → Type 0) (g : Float) (r : ReadList)
    (one : (w : ℕ) → P (push_of r w g))
    (counted : (w : ℕ) (k : Float) → P (push_of (weighted_of r) w k))
    (both : (w : ℕ) (k : Float) (v : ℕ) (l : Float) → P (push_of (push_of (weighted_of r) w k) v l)) where
  pair : (a : ℕ) (wa : Float) (b : ℕ) (k : Float) → P (push_pair r a wa b k)
  unfolding push_pair ◌>>=◌
  pair a wa b k = if_each P _ _ _ (both _ _ _ _) (counted _ _)

  pub map_by : (sk ak table : List Float) (slot : Slot) (a h : Float) (w : ℕ) → P (map_of sk ak table slot a h w g r)
  unfolding map_of sync_map pinch_map lean_map pulse_width_map flip_map mirror_map odd_even_map remap_drawn_map remap_mirrored_map remap_quad_map remap_sine_map quantise_of ◌>>=◌
  map_by sk ak table slot a h w =
      case_each P slot.mode _ (push_of r w g)
      (more (pair _ _ _ _)
      (more (one _)
      (more (one _)
      (more (one _)
      (more (pair _ _ _ _)
      (more (one _)
      (more (one _)
      (more (one _)
      (more (counted _ _)
      (more (pair _ _ _ _)
      (more (one _)
      (more (one _)
      (more (one _)
      (more (one _)
      (more (pair _ _ _ _)
      (more (both _ _ _ _) none))))))))))))))))
      (one w)
