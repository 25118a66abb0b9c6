-- A list that the phase stage makes has at most four reads. Assumes nothing.
use Prim.Native.Nat.{ℕ}
use mathlib.Core.Bool.{Bool, true, false}
use mathlib.Core.List.{List}
use lib.Ieee.{Float}
use Rattle.std.specs.Prelude.{Option, Some, None}
use Rattle.floats.specs.Steps.{when◌then◌else◌}
use Rattle.reads.specs.declared.lists.ReadList.{ReadList}
use Rattle.reads.proofs.Few.{Few, shift_few}
use Rattle.phase.specs.declared.map.Slot.{Slot}
use Rattle.phase.proofs.Few.{apply_few}
use Rattle.voice.specs.declared.control.Control.{Control}
use Rattle.voice.specs.declared.phase_run.Offset.{Offset}
use Rattle.voice.specs.PhaseRun.{map_slot, offset_if, moved_by, moved_of}

either : {A : Type 0} (P : A → Type 0) (b : Bool) {x y : A} → P x → P y → P (when b then x else y)
unfolding when◌then◌else◌
either P true p q = p
either P false p q = q

pub mapped_few : (sk ak curve : List Float) (slot : Slot) (control : Control) (h : Float) (r : ReadList) → Few r → Few (map_slot sk ak curve slot control h r)
unfolding map_slot
mapped_few sk ak curve slot control h r f = either Few _ (apply_few sk ak curve slot control.amount h r) f

pub moved_few : (mode : ℕ) (control : Control) (scale increment : Float) (r : ReadList) (carry : Float) → Few r → Few (moved_of mode control scale increment r carry).list
unfolding moved_of
moved_few mode control scale increment r carry f = go (offset_if mode control scale increment carry)
  where
    go : (o : Option Offset) → Few (moved_by o r carry).list
    go None = f
    go (Some o) = shift_few r _ f
