-- Which rows and cells a cascade leaves. Assumes nothing.
use mathlib.Core.Path.{◌≡◌, refl, ◌∙◌, ap}
use Prim.Native.Nat.{ℕ, zero, suc, ◌*◌, ◌^◌, ◌≤◌, ◌<◌}
use native.Mathlib.Decide.{ℕ_discrete}
use native.Mathlib.Nat.{pow-suc, mul_assoc}
use native.Mathlib.Omega.{arith}
use Rattle.halfband.specs.Halfband.{Kind, Sections, View, stage, cascade}
use Rattle.halfband.proofs.ChainLaws.{after_past}
use Rattle.halfband.proofs.Cuts.{stage_cell, stage_cells, cascade_past}

module _ {A : Type 0} (K : Kind A) (Ds : ℕ → Sections A) where
  stage_cells_past : (b f : ℕ) (v : View A) (c i : ℕ) → 2 * (Ds b).count ≤ i → (stage K (Ds b) b f v).cells c i ≡ v.cells c i
  stage_cells_past b f v c i h = go (ℕ_discrete c b)
    where
      go : Dec (c ≡ b) → (stage K (Ds b) b f v).cells c i ≡ v.cells c i
      go (yes e) = rw e (ap (λ (g : ℕ → A). g i) (stage_cell K (Ds b) b f v) ∙ after_past K (Ds b) (v.cells b) v.rows f i h)
      go (no ne) = ap (λ (g : ℕ → A). g i) (stage_cells K (Ds b) b f v c ne)

  -- no cell past those of twelve sections changes
  pub cascade_cells_past : (s f : ℕ) (v : View A) → ((j : ℕ) → j < s → (Ds j).count ≤ 12) → (c i : ℕ) → 24 ≤ i
      → (cascade K Ds s f v).cells c i ≡ v.cells c i
  unfolding cascade
  cascade_cells_past zero f v few c i h = refl
  cascade_cells_past (suc s) f v few c i h =
      let most : (Ds s).count ≤ 12 = few s (omega arith) in
      cascade_cells_past s f _ (λ j l. few j (omega arith)) c i h ∙ stage_cells_past s (f * 2 ^ s) v c i (omega arith)

  -- no row past the range's changes
  pub cascade_rows_past : (s f : ℕ) (v : View A) (r : ℕ) → f * 2 ^ s ≤ r → (cascade K Ds s f v).rows r ≡ v.rows r
  unfolding cascade
  cascade_rows_past zero f v r h = refl
  cascade_rows_past (suc s) f v r h = cascade_past K Ds s f v r (omega (arith, rw (pow-suc, ← mul_assoc) at h))
