-- The phase stage's list, summed without it. Assumes nothing.
use Prim.Native.Nat.{ℕ, zero, suc, max}
use native.Mathlib.Omega.{arith}
use mathlib.Core.Path.{◌≡◌, refl}
use mathlib.Core.Bool.{Bool, true, false, ◌||◌}
use mathlib.Core.List.{List, [], ◌∷◌}
use lib.Ieee.{Float}
use Rattle.std.specs.Prelude.{Option, Some, None}
use Rattle.floats.specs.F32.{◌⊗◌}
use Rattle.floats.specs.Steps.{◌>>=◌, when◌then◌else◌, left}
use Rattle.lanes.specs.Word.{add_words}
use Rattle.reads.specs.declared.lists.ReadList.{ReadList}
use Rattle.reads.specs.Reads.{start_of, move_first, shift_of, one_read, cycle_at, read_sum}
use Rattle.phase.specs.declared.map.Slot.{Slot}
use Rattle.phase.specs.Map.{apply_of}
use Rattle.phase.specs.Setting.{setting_of, setting_if}
use Rattle.phase.specs.Sums.{apply_if, shift_if, sum_of}
use Rattle.voice.specs.declared.control.Control.{Control}
use Rattle.voice.specs.declared.phase_run.Offset.{Offset}
use Rattle.voice.specs.declared.sum_run.Slide.{Slide}
use Rattle.voice.specs.declared.sum_run.Summed.{Summed}
use Rattle.voice.specs.PhaseRun.{in_phase, offset_if, moved_by, moved_of, map_slot, half_width, list_of, reads_of}
use Rattle.voice.specs.SumRun.{slide_by, slide_of, both_of, summed_of}

-- ---- two shifts are one, by the sum of the offsets
add_both : (w a b : ℕ) → add_words (add_words w b) a ≡ add_words w (add_words b a)
unfolding add_words
add_both w a b = omega arith

move_both : (a b n : ℕ) (words : List ℕ) → move_first a n (move_first b n words) ≡ move_first (add_words b a) n words
unfolding move_first
move_both a b zero words = refl
move_both a b (suc n) [] = refl
move_both a b (suc n) (w ∷ words) = rw (add_both w a b, move_both a b n words)

shift_both : (r : ReadList) (a b : ℕ) → shift_of (shift_of r b) a ≡ shift_of r (add_words b a)
unfolding shift_of
shift_both r a b = rw (move_both a b (max r.count 1) r.word)

-- ---- and one, with a slot that adds no words
add_none : (w a : ℕ) → add_words w a ≡ add_words w (add_words 0 a)
unfolding add_words
add_none w a = omega arith

add_none' : (w b : ℕ) → add_words w b ≡ add_words w (add_words b 0)
unfolding add_words
add_none' w b = omega arith

move_as : (a b : ℕ) → ((w : ℕ) → add_words w a ≡ add_words w b) → (n : ℕ) (words : List ℕ) → move_first a n words ≡ move_first b n words
unfolding move_first
move_as a b e zero words = refl
move_as a b e (suc n) [] = refl
move_as a b e (suc n) (w ∷ words) = rw (e w, move_as a b e n words)

shift_as : (r : ReadList) (a b : ℕ) → ((w : ℕ) → add_words w a ≡ add_words w b) → shift_of r a ≡ shift_of r b
unfolding shift_of
shift_as r a b e = rw (move_as a b e (max r.count 1) r.word)

same_carry : (o : Option Offset) (r : ReadList) (carry : Float) → (moved_by o r carry).carry ≡ (slide_by o carry).carry
same_carry (Some o) r carry = refl
same_carry None r carry = refl

same_list : (o₀ o₁ : Option Offset) (r : ReadList) (fm0 fm1 : Float)
    → (moved_by o₀ (moved_by o₁ r fm1).list fm0).list ≡ shift_if (both_of (slide_by o₁ fm1).word (slide_by o₀ fm0).word) r
unfolding both_of shift_if
same_list (Some o₀) (Some o₁) r fm0 fm1 = shift_both r o₀.word o₁.word
same_list (Some o₀) None r fm0 fm1 = shift_as r o₀.word _ (λ w. add_none w o₀.word)
same_list None (Some o₁) r fm0 fm1 = shift_as r o₁.word _ (λ w. add_none' w o₁.word)
same_list None None r fm0 fm1 = refl

-- a slot's map, if it is on
mapped_if : (on : Bool) (sk ak table : List Float) (slot : Slot) (a h : Float) (r : ReadList)
    → apply_if sk ak table (setting_if on slot a h) r ≡ (when on then apply_of sk ak table slot a h r else r)
unfolding apply_if setting_if setting_of when◌then◌else◌
mapped_if true sk ak table slot a h r = refl
mapped_if false sk ak table slot a h r = refl

-- ---- the law: the sum of the list that both slots make, moved once
abbrev pub summed : List Float → List Float → List Float → List Float → Slot → Slot → Control → Control → Float → Float → ℕ → Slide → Slide → Summed
summed cycle sk ak curve slot0 slot1 control0 control1 h0 h1 word s0 s1 =
    record {
      x =
          sum_of false cycle
          (shift_if (both_of s1.word s0.word)
          (apply_if sk ak curve (setting_if (in_phase slot0.mode) slot0 control0.amount h0)
          (apply_if sk ak curve (setting_if (in_phase slot1.mode) slot1 control1.amount h1) (start_of word))));
      fm0 = s0.carry;
      fm1 = s1.carry;
    }

pub list_summed : (cycle sk ak curve : List Float) (slot0 slot1 : Slot) (factor : ℕ) (scale : Float) (control0 control1 : Control) (inner : Float) (word : ℕ) (increment fm0 fm1 : Float)
    → summed cycle sk ak curve slot0 slot1 control0 control1 (half_width increment factor ⊗ inner) (half_width increment factor) word
    (slide_of slot0.mode control0 scale increment fm0) (slide_of slot1.mode control1 scale increment fm1)
    ≡ summed_of cycle (list_of sk ak curve slot0 slot1 factor scale control0 control1 inner word increment fm0 fm1)
unfolding summed_of list_of moved_of slide_of map_slot sum_of ◌>>=◌
list_summed cycle sk ak curve slot0 slot1 factor scale control0 control1 inner word increment fm0 fm1 =
    let o₀ = offset_if slot0.mode control0 scale increment fm0 in
    let o₁ = offset_if slot1.mode control1 scale increment fm1 in
    rw (mapped_if, mapped_if, left _ _ refl, same_list o₀ o₁ _ fm0 fm1, same_carry o₀ _ fm0, same_carry o₁ _ fm1)

-- without a slot in the phase stage it is the one read
pub none_summed : (cycle sk ak curve : List Float) (slot0 slot1 : Slot) (factor : ℕ) (scale : Float) (control0 control1 : Control) (inner : Float) (word step : ℕ) (fm0 fm1 : Float)
    → (in_phase slot0.mode || in_phase slot1.mode) ≡ false
    → record { x = cycle_at cycle word; fm0 = fm0; fm1 = fm1 } ≡ summed_of cycle (reads_of sk ak curve slot0 slot1 factor scale control0 control1 inner word step fm0 fm1)
unfolding summed_of reads_of read_sum one_read
none_summed cycle sk ak curve slot0 slot1 factor scale control0 control1 inner word step fm0 fm1 e = rw (left _ _ e)
