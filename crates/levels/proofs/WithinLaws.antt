-- What is within a tolerance. Assumes nothing.
use mathlib.Core.Path.{◌≡◌, refl}
use mathlib.Core.Bool.{Bool, true, false, not, ◌||◌, ◌&&◌, beq}
use Prim.Native.Nat.{ℕ, ◌+◌, ◌*◌, ◌<◌}
use native.Mathlib.Nat.{mul-pos, zero-mul}
use native.Mathlib.Omega.{arith}
use lib.Dec.{ltb, eqb}
use lib.Ieee as Ieee
use lib.Ieee.{Float, nan, inf, fin, up, down}
use borrow.Author.Tests.{ltb-true, le-ltb, ne_eqb, eqb-true, eq-eqb}
use lib.Ieee.Positive.{den_pos}
use Rattle.floats.specs.F32.{◌⊖◌, 0f}
use Rattle.floats.specs.Sign.{abs_of}
use Rattle.floats.specs.Steps.{◌>>=◌}
use Rattle.limits.proofs.SearchLaws.{never}
use Rattle.levels.specs.Levels.{within_of}

-- ---- a size and a tolerance

-- nothing is within NaN
le_nan : (x : Float) → Ieee.le x nan ≡ false
unfolding Ieee.le Ieee.lt Ieee.eq
le_nan nan = refl
le_nan (inf s) = refl
le_nan (fin s m e) = refl

-- a difference with NaN is NaN
minus_nan : (x : Float) → abs_of (x ⊖ nan) ≡ nan
unfolding abs_of Ieee.sub Ieee.add Ieee.neg
minus_nan nan = refl
minus_nan (inf s) = refl
minus_nan (fin s m e) = refl

-- -0 is 0
zeros : (a b : ℕ) → b ≡ 0 → (eqb a b && eqb a 0) ≡ (ltb a b || (eqb a b && true))
zeros a b z = rw (z, le-ltb a 0 (omega arith)) (go (eqb a 0))
  where
    go : (b : Bool) → (b && b) ≡ (b && true)
    go true = refl
    go false = refl

le_minus_zero : (x : Float) → Ieee.le (abs_of x) (Ieee.neg 0f) ≡ Ieee.le (abs_of x) 0f
unfolding abs_of Ieee.le Ieee.lt Ieee.eq Ieee.neg Ieee.of_bits
le_minus_zero nan = refl
le_minus_zero (inf s) = refl
le_minus_zero (fin s m e) = zeros (m * up e * 1) (0 * down e) (zero-mul (down e))

-- no size is within what is below 0
size_above : (a b : ℕ) → 0 < b → (eqb a b && eqb a 0) ≡ false
size_above a b h = go (eqb a 0) refl
  where
    nothing : (t : Bool) → (t && false) ≡ false
    nothing true = refl
    nothing false = refl

    go : (t : Bool) → eqb a 0 ≡ t → (eqb a b && t) ≡ false
    go true t = let z = eqb-true a 0 t in rw (ne_eqb a b (λ (q : a ≡ b). omega arith))
    go false f = nothing (eqb a b)

le_below_zero : (x tolerance : Float) → Ieee.lt tolerance 0f ≡ true → Ieee.le (abs_of x) tolerance ≡ false
unfolding abs_of Ieee.le Ieee.lt Ieee.eq Ieee.of_bits
le_below_zero nan tolerance h = refl
le_below_zero (inf s) nan h = refl
le_below_zero (inf s) (inf true) h = refl
le_below_zero (inf s) (inf false) h = never h refl
le_below_zero (inf s) (fin t n d) h = refl
le_below_zero (fin s m e) nan h = refl
le_below_zero (fin s m e) (inf true) h = refl
le_below_zero (fin s m e) (inf false) h = never h refl
le_below_zero (fin s m e) (fin true n d) h =
    let none = zero-mul (down d) in
    let above = ltb-true 0 (n * up d * 1 + 0 * down d) h in
    size_above (m * up e * down d) (n * up d * down e) (mul-pos (omega arith) (den_pos (fin s m e)))
le_below_zero (fin s m e) (fin false n d) h =
    let none = zero-mul (down d) in
    never h (le-ltb (n * up d * 1) (0 * down d) (omega arith))

-- as far as the tolerance is within
level_self : (s : Bool) (a : ℕ) (b : Bool) → (b || (eqb a a && (beq s s || eqb a 0))) ≡ true
level_self s a true = refl
level_self true a false = rw (eq-eqb a a refl)
level_self false a false = rw (eq-eqb a a refl)

same_sign : (s : Bool) → ((s && not s) || beq s s) ≡ true
same_sign true = refl
same_sign false = refl

le_self : (x : Float) → (x ≡ nan → ⊥) → Ieee.le x x ≡ true
unfolding Ieee.le Ieee.lt Ieee.eq
le_self nan h = absurd (h refl)
le_self (inf s) h = same_sign s
le_self (fin s m e) h = level_self s (m * up e * down e) (Ieee.below s (m * up e * down e) s (m * up e * down e))

-- ---- an output

module _ (wanted tolerance out : Float) where
  -- NaN never is: no distance that is NaN
  pub nan_distance : abs_of (out ⊖ wanted) ≡ nan → within_of wanted tolerance out ≡ false
  unfolding within_of ◌>>=◌
  nan_distance e = rw e (unfold Ieee.le Ieee.lt Ieee.eq in refl)

  -- equal to the tolerance is within
  pub as_far : (abs_of (out ⊖ wanted) ≡ nan → ⊥) → within_of wanted (abs_of (out ⊖ wanted)) out ≡ true
  unfolding within_of ◌>>=◌
  as_far e = le_self (abs_of (out ⊖ wanted)) e

  -- below 0 nothing is within
  pub below_zero : Ieee.lt tolerance 0f ≡ true → within_of wanted tolerance out ≡ false
  unfolding within_of ◌>>=◌
  below_zero l = le_below_zero (out ⊖ wanted) tolerance l

-- nor is anything where the tolerance or the wanted output is NaN
pub nan_tolerance : (wanted out : Float) → within_of wanted nan out ≡ false
unfolding within_of ◌>>=◌
nan_tolerance wanted out = le_nan (abs_of (out ⊖ wanted))

pub nan_wanted : (tolerance out : Float) → within_of nan tolerance out ≡ false
nan_wanted tolerance out = nan_distance nan tolerance out (minus_nan out)

-- a tolerance of -0 is one of 0
pub minus_zero : (wanted out : Float) → within_of wanted (Ieee.neg 0f) out ≡ within_of wanted 0f out
unfolding within_of ◌>>=◌
minus_zero wanted out = le_minus_zero (out ⊖ wanted)
