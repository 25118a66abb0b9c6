-- The steepest slope is a number from 1 to 16, whatever the table holds. Assumes nothing.
use mathlib.Core.Path.{◌≡◌, refl, sym}
use mathlib.Core.Bool.{Bool, true, false, cond, true≢false}
use mathlib.Core.List.{List}
use Prim.Native.Nat.{ℕ, zero, suc, ◌*◌, ◌^◌}
use lib.Dec.{ltb}
use lib.Ieee.{Float, nan, inf, fin, binary32, is_nan, lt, mul, units, odd, of_bits}
use lib.Ieee.Fits.{round_is}
use Rattle.floats.specs.F32.{1f, bits}
use Rattle.floats.specs.Steps.{◌>>=◌}
use Rattle.lanes.specs.Lane.{min_of, max_of}
use Rattle.lanes.specs.Maths.{clamp_of}
use Rattle.curve.specs.Curve.{resolution, slope_of, steepest_to, steepest_of}

pub record Slope (x : Float) : Type 0 where
  pub number : is_nan x ≡ false
  pub low : lt x 1f ≡ false
  pub high : lt (bits 0x4180_0000) x ≡ false

by_test : (P : Float → Type 0) (t : Bool) (x y : Float) → (t ≡ true → P x) → (t ≡ false → P y) → P (cond t x y)
by_test P true x y f g = f refl
by_test P false x y f g = g refl

-- what lies above another is a number
above : (x y : Float) → lt x y ≡ true → is_nan y ≡ false
unfolding lt is_nan
above x (inf t) h = refl
above x (fin t n d) h = refl
above nan nan h = absurd (true≢false (sym h))
above (inf s) nan h = absurd (true≢false (sym h))
above (fin s m e) nan h = absurd (true≢false (sym h))

max_number : (x y : Float) → is_nan x ≡ false → is_nan (max_of x y) ≡ false
unfolding max_of
max_number x y h = by_test (λ (z : Float). is_nan z ≡ false) (lt x y) y x (above x y) (λ e. h)

fold_number : (table : List Float) (n : ℕ) → is_nan (steepest_to table n) ≡ false
unfolding steepest_to is_nan of_bits
fold_number table zero = refl
fold_number table (suc n) = max_number (steepest_to table n) (slope_of table n) (fold_number table n)

odd_number : (d : ℕ) (s : Bool) (q k l : ℕ) → is_nan (odd d s q k l) ≡ false
unfolding odd is_nan
odd_number d s zero k l = refl
odd_number d s (suc q) k l = refl

units_number : (s : Bool) (q k : ℕ) → is_nan (units binary32 s q k) ≡ false
unfolding units is_nan
units_number s q k =
    by_test (λ (z : Float). is_nan z ≡ false) (ltb (q * 2 ^ k) (2 ^ 277)) (odd 25 s q k 149) (inf s) (λ e. odd_number 25 s q k 149) (λ e. refl)

times_number : (x : Float) → is_nan x ≡ false → is_nan (mul binary32 x resolution) ≡ false
unfolding mul is_nan of_bits
times_number nan h = h
times_number (inf s) h = refl
times_number (fin s m e) h = simp (round_is, units_number)

clamp_number : (x : Float) → is_nan x ≡ false → Slope (clamp_of x 1f (bits 0x4180_0000))
unfolding clamp_of ◌>>=◌ max_of min_of lt of_bits is_nan
clamp_number x h =
    let y = max_of x 1f in
    let number : is_nan y ≡ false = max_number x 1f h in
    let low : lt y 1f ≡ false = by_test (λ (z : Float). lt z 1f ≡ false) (lt x 1f) 1f x (λ e. refl) (λ e. e) in
    by_test Slope (lt (bits 0x4180_0000) y) (bits 0x4180_0000) y
    (λ e. record { number = refl; low = refl; high = refl })
    (λ e. record { number = number; low = low; high = e })

pub steepest_slope : (table : List Float) → Slope (steepest_of table)
unfolding steepest_of
steepest_slope table = clamp_number _ (times_number _ (fold_number table 1024))
