-- A product's factors may be exchanged. Assumes nothing.
use mathlib.Core.Path.{◌≡◌, refl}
use mathlib.Core.Bool.{Bool, true, false}
use Prim.Native.Nat.{◌*◌}
use native.Mathlib.Nat.{mul_comm}
use lib.Ieee as Ieee
use lib.Ieee.{Float, nan, inf, fin, up, down, unlike}
use Rattle.floats.specs.F32.{◌⊗◌}

unlike_comm : (s t : Bool) → unlike s t ≡ unlike t s
unlike_comm true true = refl
unlike_comm true false = refl
unlike_comm false true = refl
unlike_comm false false = refl

pub product_comm : (x y : Float) → x ⊗ y ≡ y ⊗ x
unfolding Ieee.mul
product_comm nan nan = refl
product_comm nan (inf t) = refl
product_comm nan (fin t n d) = refl
product_comm (inf s) nan = refl
product_comm (inf s) (inf t) = rw (unlike_comm s t)
product_comm (inf s) (fin t n d) = rw (unlike_comm s t)
product_comm (fin s m e) nan = refl
product_comm (fin s m e) (inf t) = rw (unlike_comm s t)
product_comm (fin s m e) (fin t n d) = rw (unlike_comm s t, mul_comm (m * up e) (n * up d), mul_comm (down e) (down d))
