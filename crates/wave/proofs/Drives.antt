-- A sample times 1 is that sample. So the setting of Rectify, which the Rust does not drive, may carry the drive 1, and a curve's setting
-- shapes the sample as `distort_smooth` does (`curve_smooth`). Assumes nothing.
use Prim.Native.Nat.{ℕ, zero, suc, ◌+◌, ◌-◌, ◌*◌, ◌%◌, ◌^◌, ◌≤◌, ◌<◌}
use native.Mathlib.Omega.{arith}
use native.Mathlib.Nat.{mul-one, mul_assoc, zero-mul, lt_of_lt_of_le, lt_of_not-le, lt_irrefl, le_of_suc-le-suc}
use mathlib.Core.Path.{◌≡◌, refl, ap}
use mathlib.Core.Bool.{Bool, true, false, cond, ◌&&◌}
use mathlib.Core.List.{List}
use lib.IntN.{ℤ, pos, negsuc}
use lib.Dec.{T, leb, ltb, eqb, ltb→lt, leb→le, lit<}
use lib.Pow.{pow-add, pow-lt, pow_mono, shl_lt}
use lib.Ieee.{Float, nan, inf, fin, binary32, up, down, round, mul, fits, of_bits}
use lib.Ieee.Fits.{and_l, and_r, down_pos, mul-fits}
use lib.Ieee.Exact.{round_exact}
use Rattle.floats.specs.F32.{◌⊗◌, 1f}
use Rattle.floats.specs.Steps.{◌>>=◌}
use Rattle.floats.proofs.Exact.{value_fixes, mul_value}
use Rattle.std.specs.Prelude.{Some}
use Rattle.modes.specs.Choice.{case_of}
use Rattle.wave.specs.declared.filters.Svf.{Svf}
use Rattle.wave.specs.Smooth.{drive_of, gain_of, driven_of, smooth_of, distort_smooth}
use Rattle.wave.specs.Slot.{curve_setting, shape_of}

sign_kept : (s : Bool) (m : ℕ) (e : ℤ) → fin s m e ⊗ 1f ≡ round binary32 s (m * up e * 1) (down e * 1)
unfolding of_bits
sign_kept true m e = mul_value binary32 (fin true m e) 1f true false (m * up e) (down e) 1 1 (down_pos e) (lit< tt) (refl, refl) (refl, refl)
sign_kept false m e = mul_value binary32 (fin false m e) 1f false false (m * up e) (down e) 1 1 (down_pos e) (lit< tt) (refl, refl) (refl, refl)

-- of a number m * 2 ^ e that is m * 2 ^ j smallest values
held : (s : Bool) (m : ℕ) (e : ℤ) (j : ℕ) → m < 2 ^ 24 → m * 2 ^ j < 2 ^ 277 → m * up e * 2 ^ 149 ≡ m * 2 ^ j * down e → T (fits binary32 (fin s m e)) → fin s m e ⊗ 1f ≡ fin s m e
held s m e j M B h F =
    value_fixes binary32 (fin s m e ⊗ 1f) (fin s m e) s (m * up e * 1) (down e * 1) (rw mul-one (down_pos e)) (mul-fits binary32 (fin s m e) 1f) F
    (rw (sign_kept s m e) (round_exact binary32 s (m * up e * 1) (down e * 1) m j (rw mul-one (down_pos e)) M B (simp mul-one h)))
    (refl, simp mul-one)

-- the exponent of a number that is held goes down to -149
least : (k : ℕ) → 2 ^ suc k ≤ 2 ^ 149 → suc k ≤ 149
least k h = le_of_suc-le-suc (lt_of_not-le (λ (g : 150 ≤ suc k). lt_irrefl (2 ^ 149) (lt_of_lt_of_le (pow-lt g) h)))

module _ (s : Bool) (m k : ℕ) where
  large : m < 2 ^ 24 → m * 2 ^ k < 2 ^ 128 → T (fits binary32 (fin s m (pos k))) → fin s m (pos k) ⊗ 1f ≡ fin s m (pos k)
  large M B F = held s m (pos k) (k + 149) M (rw (pow-add 2 k 149, ← mul_assoc m (2 ^ k) (2 ^ 149)) (shl_lt 128 149 B)) (rw (pow-add 2 k 149, mul-one, mul_assoc)) F

  small : m < 2 ^ 24 → suc k ≤ 149 → T (fits binary32 (fin s m (negsuc k))) → fin s m (negsuc k) ⊗ 1f ≡ fin s m (negsuc k)
  small M h F =
      let j = 149 - suc k in
      let e : j + suc k ≡ 149 = omega arith in
      held s m (negsuc k) j M (lt_of_lt_of_le (shl_lt 24 j M) (pow_mono {j = 277} (omega arith))) (rw (mul-one, mul_assoc, ← pow-add 2 j (suc k), e)) F

-- m * 2 ^ e is held where these tests pass: m is odd (A) and below 2 ^ 24, the exponent is -149 at least, and the value below 2 ^ 128
finite : (s : Bool) (m : ℕ) (e : ℤ) (A : Bool) → T (A && ltb m (2 ^ 24) && leb (down e) (2 ^ 149) && ltb (m * up e) (2 ^ 128 * down e)) → T (fits binary32 (fin s m e)) → fin s m e ⊗ 1f ≡ fin s m e
finite s m e A t F =
    let B = ltb m (2 ^ 24) in
    let C = leb (down e) (2 ^ 149) in
    let D = ltb (m * up e) (2 ^ 128 * down e) in
    let t₁ = and_l (A && B && C) D t in
    go e (ltb→lt m (2 ^ 24) (and_r A B (and_l (A && B) C t₁))) (leb→le (down e) (2 ^ 149) (and_r (A && B) C t₁)) (ltb→lt (m * up e) (2 ^ 128 * down e) (and_r (A && B && C) D t)) F
  where
    go : (e : ℤ) → m < 2 ^ 24 → down e ≤ 2 ^ 149 → m * up e < 2 ^ 128 * down e → T (fits binary32 (fin s m e)) → fin s m e ⊗ 1f ≡ fin s m e
    go (pos k) M l h F = large s m k M h F
    go (negsuc k) M l h F = small s m k M (least k l) F

pub times_one : (x : Float) → T (fits binary32 x) → x ⊗ 1f ≡ x
unfolding mul of_bits fits
times_one nan F = refl
times_one (inf true) F = refl
times_one (inf false) F = refl
times_one (fin s zero e) F = held s 0 e 0 (lit< tt) (lit< tt) (simp zero-mul) F
times_one (fin s (suc m) e) F = finite s (suc m) e (eqb (suc m % 2) 1) F F

driven : (mode : ℕ) (a x : Float) → T (fits binary32 x) → x ⊗ gain_of mode a ≡ driven_of mode a x
unfolding gain_of driven_of case_of
driven mode a x F = go (eqb mode 28)
  where
    go : (b : Bool) → x ⊗ cond b 1f (drive_of mode a) ≡ cond b x (x ⊗ drive_of mode a)
    go true = times_one x F
    go false = refl

pub curve_smooth : (sk : List Float) (mode : ℕ) (a increment x : Float) (state : Svf) → T (fits binary32 x) → shape_of sk mode (Some (curve_setting mode a)) increment x state ≡ distort_smooth sk mode a x state
unfolding curve_setting shape_of distort_smooth ◌>>=◌
curve_smooth sk mode a increment x state F = ap (λ (d : Float). smooth_of sk mode a d x state) (driven mode a x F)
