-- The laws of the stages of a call: what is left of the cascade after each, and that each has its rows. Assumes nothing.
use mathlib.Core.Path.{◌≡◌, fun_ext}
use Prim.Native.Nat.{ℕ, zero, suc, ◌-◌, ◌*◌, ◌%◌, ◌^◌, ◌≤◌, ◌<◌}
use native.Mathlib.Nat.{mul-le-mul, mul-le-mul_left, mul-le-mul_right, mul_assoc, pow-suc, mod-eq_of_lt}
use native.Mathlib.Numerals.{sub-one}
use native.Mathlib.Omega.{arith}
use lib.Pow.{pow_mono}
use Rattle.grid.specs.Lanes.{Each}
use Rattle.grid.proofs.EachLaws.{each_id, each_then}
use Rattle.halfband.specs.declared.design.Designs.{Designs}
use Rattle.halfband.specs.Halfband.{Kind, Sections, View, stage, cascade}
use Rattle.halfband.specs.Promises.{Taken, Rows}

module _ {ds : Designs} {s f n buffer state : ℕ} (taken : Taken ds s f n buffer state) (j : ℕ) (hj : j < s) where
  few_frames : f * 2 ^ j ≤ 4096 * 4
  few_frames = mul-le-mul taken.frames (pow_mono {j = 2} (omega (arith, taken.stages)))

  -- the shift loses no bits
  pub shifted : f * 2 ^ j % 2 ^ 64 ≡ f * 2 ^ j
  shifted = mod-eq_of_lt (omega (arith, few_frames))

  pub stage_rows : Rows buffer (f * 2 ^ j) n
  stage_rows =
      let more : f * 2 ^ suc j ≤ f * 2 ^ s = mul-le-mul_left f (pow_mono hj) in
      let twice : 2 * (f * 2 ^ j) ≤ f * 2 ^ s = omega (arith, rw (pow-suc, ← mul_assoc) at more) in
      record { few = omega (arith, few_frames); held = omega (arith, mul-le-mul_right n twice, taken.rows) }

module _ {A : Type 0} (K : Kind A) (Ds : ℕ → Sections A) (f n from to : ℕ) where
  -- one stage less is left
  cascade_less : (s : ℕ) (v : View A) → 0 < s → cascade K Ds s f v ≡ cascade K Ds (s - 1) f (stage K (Ds (s - 1)) (s - 1) (f * 2 ^ (s - 1)) v)
  unfolding cascade
  cascade_less zero v h = absurd (omega arith)
  cascade_less (suc s) v h = rw sub-one

  pub stages_then : {s : ℕ} {w w' w'' : ℕ → View A} → 0 < s
      → Each n from to (λ _. stage K (Ds (s - 1)) (s - 1) (f * 2 ^ (s - 1))) w w'
      → Each n from to (λ _. cascade K Ds (s - 1) f) w' w'' → Each n from to (λ _. cascade K Ds s f) w w''
  stages_then {s} h first rest = rw (fun_ext (λ (v : View A). cascade_less s v h)) (each_then first rest)

  -- no stage is left
  pub stages_done : {s : ℕ} {w : ℕ → View A} → s ≡ 0 → Each n from to (λ _. cascade K Ds s f) w w
  unfolding cascade
  stages_done e = rw e each_id
