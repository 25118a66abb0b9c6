-- The functions of lanes.rs below `impl Lane for f32`, in its order and its steps. Definitions only.
use Rattle.std.specs.Prelude.{ℕ, zero, suc, List, slice_index_or, Float}
use Rattle.std.specs.Float.Ieee as Ieee
use Rattle.std.specs.Float.{nan}
use Rattle.floats.specs.F32.{◌⊕◌, ◌⊖◌, ◌⊗◌, ◌⊘◌, bits, 0f, 1f, 2f, 3f, 4f, 5f, 6f, 7f, 9f, 10f, 11f, 13f, 15f, ½f, ¼f, tau}
use Rattle.floats.specs.Steps.{◌>>=◌}
use Rattle.floats.specs.Floor.{floor_of}
use Rattle.floats.specs.Sign.{abs_of, sign_bit}
use Rattle.floats.specs.Sqrt.{sqrt_of}
use Rattle.floats.specs.Exp2.{exp2_of}
use Rattle.floats.specs.Pattern.{split_of}
use Rattle.lanes.specs.Lane.{mul_add, min_of, max_of}

-- (b - a).mul_add(mask, a)
abbrev pub pick_of : Float → Float → Float → Float
pick_of mask a b = mul_add (b ⊖ a) mask a

-- (-x).sign_bit()
unfoldable pub above_of : Float → Float
above_of x = sign_bit (Ieee.neg x)

-- 1.0 - x.sign_bit() * 2.0
unfoldable pub sign_of : Float → Float
sign_of x = do
  s ← sign_bit x
  1f ⊖ s ⊗ 2f

-- x.max(lo).min(hi)
unfoldable pub clamp_of : Float → Float → Float → Float
clamp_of x lo hi = do
  low ← max_of x lo
  min_of low hi

-- t * t * t * t.mul_add(t.mul_add(6.0, -15.0), 10.0)
unfoldable pub smoothstep_of : Float → Float
smoothstep_of t₀ = do
  t ← clamp_of t₀ 0f 1f
  t ⊗ t ⊗ t ⊗ mul_add t (mul_add t 6f (Ieee.neg 15f)) 10f

-- for &k in KS[..left].iter().rev() { p = p.mul_add(x, k) }
unfoldable pub horner : List Float → Float → ℕ → Float → Float
horner ks x zero p = p
horner ks x (suc left) p = horner ks x left (mul_add p x (slice_index_or ks left nan))

-- sin 2πt, for t in cycles, with the five numbers of `SIN`
unfoldable pub sin_cycles : List Float → Float → Float
sin_cycles ks t = do
  whole ← floor_of (t ⊕ ½f)
  wrapped ← t ⊖ whole
  a₀ ← abs_of wrapped
  a ← min_of a₀ (½f ⊖ a₀)
  x ← a ⊗ tau
  x2 ← x ⊗ x
  p ← horner ks x2 4 (slice_index_or ks 4 nan)
  s ← sign_of wrapped
  (p ⊗ x) ⊗ s

-- cos 2πt: sin_cycles(t + 0.25)
unfoldable pub cos_cycles : List Float → Float → Float
cos_cycles ks t = sin_cycles ks (t ⊕ ¼f)

-- the tangent of half the angle whose tangent is x: |x| x / (one + x.mul_add(x, one).sqrt())
unfoldable pub half_of : Float → Float
half_of x = do
  root ← sqrt_of (mul_add x x 1f)
  x ⊘ (1f ⊕ root)

-- atan x, with the eight numbers of `ATAN`
unfoldable pub atan_of : List Float → Float → Float
atan_of ks x₀ = do
  x₁ ← half_of x₀
  x ← half_of x₁
  x2 ← x ⊗ x
  p ← horner ks x2 7 (slice_index_or ks 7 nan)
  p ⊗ x ⊗ 4f

-- `std::f32::consts`: LOG2_E, 1.442695, and LN_2, 0.6931472
abbrev pub log2e : Float
log2e = bits 0x3fb8_aa3b

abbrev pub ln2 : Float
ln2 = bits 0x3f31_7218

-- tanh x: 1.0 - 2.0 / (e + 1.0), x kept to -9..9
unfoldable pub tanh_of : Float → Float
tanh_of x₀ = do
  x ← clamp_of x₀ (Ieee.neg 9f) 9f
  e ← exp2_of (x ⊗ (2f ⊗ log2e))
  1f ⊖ 2f ⊘ (e ⊕ 1f)

-- (x * LOG2_E).exp2()
unfoldable pub exp_of : Float → Float
exp_of x = exp2_of (x ⊗ log2e)

-- let mut p = 1.0 / 13.0; for k in [11.0, 9.0, 7.0, 5.0, 3.0, 1.0] { p = p.mul_add(t2, 1.0 / k) }
unfoldable pub ln_series : Float → Float
ln_series t2 = do
  p₁₃ ← 1f ⊘ 13f
  p₁₁ ← mul_add p₁₃ t2 (1f ⊘ 11f)
  p₉ ← mul_add p₁₁ t2 (1f ⊘ 9f)
  p₇ ← mul_add p₉ t2 (1f ⊘ 7f)
  p₅ ← mul_add p₇ t2 (1f ⊘ 5f)
  p₃ ← mul_add p₅ t2 (1f ⊘ 3f)
  mul_add p₃ t2 (1f ⊘ 1f)

-- ln x: exponent.mul_add(LN_2, p * t * 2.0)
unfoldable pub ln_of : Float → Float
ln_of x = do
  parts ← split_of x
  t ← (parts.mantissa ⊖ 1f) ⊘ (parts.mantissa ⊕ 1f)
  p ← ln_series (t ⊗ t)
  mul_add parts.exponent ln2 (p ⊗ t ⊗ 2f)

-- ln cosh x: a + ln(1.0 + exp(a * -2.0)) - LN_2
unfoldable pub ln_cosh : Float → Float
ln_cosh x = do
  a ← abs_of x
  e ← exp_of (a ⊗ Ieee.neg 2f)
  l ← ln_of (1f ⊕ e)
  a ⊕ l ⊖ ln2

-- tan x: sin_cycles(t) / cos_cycles(t)
unfoldable pub tan_of : List Float → Float → Float
tan_of ks x = do
  t ← x ⊗ (1f ⊘ tau)
  s ← sin_cycles ks t
  c ← cos_cycles ks t
  s ⊘ c
