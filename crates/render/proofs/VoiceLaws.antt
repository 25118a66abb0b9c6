-- The laws of a lane's rendered frames: one more, and some followed by others. Assumes nothing.
use mathlib.Core.Path.{◌≡◌, refl, sym, ap₂}
use Prim.Native.Nat.{ℕ, zero, suc, ◌+◌}
use native.Mathlib.Nat.{add_assoc, add-zero, add-suc}
use native.Mathlib.Numerals.{add-one}
use Rattle.render.specs.declared.state.BlockSettings.{BlockSettings}
use Rattle.render.specs.declared.state.Voice.{Voice}
use Rattle.render.specs.Lane.{Inputs, step_at, voice_after, sample_at}

module _ (b : BlockSettings) (i : Inputs) (q : ℕ) (v : Voice) where
  pub voice_none : voice_after b i q v 0 ≡ v
  unfolding voice_after
  voice_none = refl

  pub voice_more : (k : ℕ) → voice_after b i q v (k + 1) ≡ (step_at b i (q + k) (voice_after b i q v k)).voice
  unfolding voice_after
  voice_more k = rw add-one

  pub sample_is : (k : ℕ) → sample_at b i q v k ≡ (step_at b i (q + k) (voice_after b i q v k)).sample
  unfolding sample_at
  sample_is k = refl

  -- a frames and then c more
  pub voice_add : (a c : ℕ) → voice_after b i q v (a + c) ≡ voice_after b i (q + a) (voice_after b i q v a) c
  unfolding voice_after
  voice_add a zero = rw add-zero
  voice_add a (suc c) =
      rw add-suc (ap₂ (λ (k : ℕ) (w : Voice). (step_at b i k w).voice) (sym (add_assoc q a c)) (voice_add a c))

  pub sample_add : (a c : ℕ) → sample_at b i q v (a + c) ≡ sample_at b i (q + a) (voice_after b i q v a) c
  unfolding sample_at
  sample_add a c = ap₂ (λ (k : ℕ) (w : Voice). (step_at b i k w).sample) (sym (add_assoc q a c)) (voice_add a c)
