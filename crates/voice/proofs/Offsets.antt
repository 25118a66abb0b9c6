-- The order of the two slots' offsets cannot be told from the list: words add, modulo 2 ^ 32. Assumes nothing.
use Prim.Native.Nat.{ℕ, zero, suc, max}
use native.Mathlib.Omega.{arith}
use mathlib.Core.Path.{◌≡◌, refl}
use mathlib.Core.List.{List, [], ◌∷◌}
use lib.Ieee.{Float}
use Rattle.std.specs.Prelude.{Option, Some, None}
use Rattle.lanes.specs.Word.{add_words}
use Rattle.reads.specs.declared.lists.ReadList.{ReadList}
use Rattle.reads.specs.Reads.{move_first, shift_of}
use Rattle.voice.specs.declared.control.Control.{Control}
use Rattle.voice.specs.declared.phase_run.Offset.{Offset}
use Rattle.voice.specs.PhaseRun.{offset_if, moved_by, moved_of}

add_add : (w a b : ℕ) → add_words (add_words w b) a ≡ add_words (add_words w a) b
unfolding add_words
add_add w a b = omega arith

move_move : (a b n : ℕ) (words : List ℕ) → move_first a n (move_first b n words) ≡ move_first b n (move_first a n words)
unfolding move_first
move_move a b zero words = refl
move_move a b (suc n) [] = refl
move_move a b (suc n) (w ∷ words) = rw (add_add w a b, move_move a b n words)

shift_shift : (r : ReadList) (a b : ℕ) → shift_of (shift_of r b) a ≡ shift_of (shift_of r a) b
unfolding shift_of
shift_shift r a b = rw (move_move a b (max r.count 1) r.word)

in_order : (o₀ o₁ : Option Offset) (r : ReadList) (fm0 fm1 : Float) → (moved_by o₀ (moved_by o₁ r fm1).list fm0).list ≡ (moved_by o₁ (moved_by o₀ r fm0).list fm1).list
in_order (Some o₀) (Some o₁) r fm0 fm1 = shift_shift r o₀.word o₁.word
in_order (Some o₀) None r fm0 fm1 = refl
in_order None (Some o₁) r fm0 fm1 = refl
in_order None None r fm0 fm1 = refl

module _ (scale increment : Float) where
  -- the list is the same with slot 0's offset first
  pub either_order : (mode₀ mode₁ : ℕ) (control₀ control₁ : Control) (r : ReadList) (fm0 fm1 : Float)
      → (moved_of mode₀ control₀ scale increment (moved_of mode₁ control₁ scale increment r fm1).list fm0).list
      ≡ (moved_of mode₁ control₁ scale increment (moved_of mode₀ control₀ scale increment r fm0).list fm1).list
  unfolding moved_of
  either_order mode₀ mode₁ control₀ control₁ r fm0 fm1 = in_order (offset_if mode₀ control₀ scale increment fm0) (offset_if mode₁ control₁ scale increment fm1) r fm0 fm1
