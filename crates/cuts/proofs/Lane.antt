-- A lane's rendered frames from q on: a of them and then k more are a + k of them. Assumes nothing.
use mathlib.Core.Path.{◌≡◌, refl, sym, ap₂}
use Prim.Native.Nat.{ℕ, zero, suc, ◌+◌}
use native.Mathlib.Nat.{add-zero, add-suc, add_assoc}
use Rattle.render.specs.declared.state.BlockSettings.{BlockSettings}
use Rattle.render.specs.declared.state.Voice.{Voice}
use Rattle.render.specs.Lane.{Inputs, step_at, voice_after, sample_at}

module _ (b : BlockSettings) (i : Inputs) (q : ℕ) (v : Voice) (a : ℕ) where
  pub voice_add : (k : ℕ) → voice_after b i q v (a + k) ≡ voice_after b i (q + a) (voice_after b i q v a) k
  unfolding voice_after
  voice_add zero = rw add-zero
  voice_add (suc k) = rw add-suc (ap₂ (λ (p : ℕ) (w : Voice). (step_at b i p w).voice) (sym (add_assoc q a k)) (voice_add k))

  pub sample_add : (k : ℕ) → sample_at b i q v (a + k) ≡ sample_at b i (q + a) (voice_after b i q v a) k
  unfolding sample_at
  sample_add k = ap₂ (λ (p : ℕ) (w : Voice). (step_at b i p w).sample) (sym (add_assoc q a k)) (voice_add k)

pub voice_none : (b : BlockSettings) (i : Inputs) (q : ℕ) (v : Voice) → voice_after b i q v 0 ≡ v
unfolding voice_after
voice_none b i q v = refl
