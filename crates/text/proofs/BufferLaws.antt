-- The laws of a line in a buffer: the buffer after one byte more, and what is left over. Assumes nothing.
use mathlib.Core.Path.{◌≡◌, refl, sym}
use mathlib.Core.Bool.{Bool, true, false, cond, not, ◌&&◌}
use mathlib.Core.List.{List, [], ◌∷◌, ◌++◌}
use Prim.Native.Nat.{ℕ, zero, suc, ◌+◌, min, ◌≤◌, ◌<◌}
use native.Mathlib.Nat.{min-eq_left, min-eq_right, le_of_lt}
use native.Mathlib.Numerals.{add-one}
use native.Mathlib.Omega.{arith}
use lib.Dec.{ltb}
use lib.ListN.{length, take, set, length-append}
use lib.Seq.{take_all, take-append-le, take-suc-set, length-take-le}
use borrow.Author.Tests.{eq-eqb, ne_eqb, lt-ltb, ltb-true, ltb-false}
use Rattle.text.specs.Lines.{unless_empty, begun, with_byte}
use Rattle.text.specs.Buffers.{Held, reading, begun_length, left_over}

-- a length above the buffer's counts as the buffer's
pub kept_taken : (buffer : List ℕ) (n : ℕ) → length buffer ≡ 255 → take (min n 255) buffer ≡ take n buffer
kept_taken buffer n full = by_length (ltb n 255) refl
  where
    by_length : (t : Bool) → ltb n 255 ≡ t → take (min n 255) buffer ≡ take n buffer
    by_length true h = rw (min-eq_left (le_of_lt (ltb-true n 255 h)))
    by_length false h = rw (min-eq_right (ltb-false n 255 h), take_all 255 buffer (omega arith), take_all n buffer (omega (arith, ltb-false n 255 h)))

-- the buffer's bytes that a further one comes after
pub begun_taken : (buffer : List ℕ) (l : Held) → length buffer ≡ 255 → take (begun_length l) buffer ≡ begun (reading buffer l)
unfolding begun_length begun
begun_taken buffer l full = by_end l.ended
  where
    by_end : (t : Bool) → take (cond t 0 (min l.length 255)) buffer ≡ cond t [] (take l.length buffer)
    by_end true = refl
    by_end false = kept_taken buffer l.length full

module _ (buffer : List ℕ) (l : Held) (full : length buffer ≡ 255) (b at : ℕ) (place : at ≡ begun_length l) where
  -- the bytes that have begun, by their number
  begun_at : begun (reading buffer l) ≡ take at buffer
  begun_at = sym (rw place (begun_taken buffer l full))

  pub line_ends : b ≡ 10 → reading buffer (record { length = at; ended = true }) ≡ with_byte (reading buffer l) b
  unfolding with_byte
  line_ends e = rw (eq-eqb b 10 e, begun_at)

  pub line_full : (b ≡ 10 → ⊥) → 255 ≤ at → reading buffer (record { length = at; ended = false }) ≡ with_byte (reading buffer l) b
  unfolding with_byte
  line_full e h = rw (ne_eqb b 10 e, begun_at, take_all at buffer (omega arith), take-append-le 255 buffer (b ∷ []) (omega arith), take_all 255 buffer (omega arith))

  pub line_grows : (b ≡ 10 → ⊥) → at < 255
      → reading (set buffer at b) (record { length = at + 1; ended = false }) ≡ with_byte (reading buffer l) b
  unfolding with_byte
  line_grows e h =
      let short : length (take at buffer ++ (b ∷ [])) ≤ 255 = simp (length-append, length-take-le at buffer (omega arith)) (omega arith) in
      rw (ne_eqb b 10 e, begun_at, add-one, take-suc-set buffer at b (omega arith), take_all 255 (take at buffer ++ (b ∷ [])) short)

-- ---- the input's end

-- where there is something left over it is the buffer's first bytes
pub left_over_lem : (buffer : List ℕ) (l : Held) → length buffer ≡ 255
    → unless_empty (begun (reading buffer l)) ≡ cond (left_over l) (take l.length buffer ∷ []) []
unfolding begun unless_empty
left_over_lem [] l full = absurd (omega arith)
left_over_lem (b ∷ bs) l full = by_end l.ended l.length
  where
    by_end : (t : Bool) (n : ℕ) → unless_empty (cond t [] (take n (b ∷ bs))) ≡ cond (not t && ltb 0 n) (take n (b ∷ bs) ∷ []) []
    by_end true n = refl
    by_end false zero = refl
    by_end false (suc n) = rw (lt-ltb 0 (suc n) (omega arith))
