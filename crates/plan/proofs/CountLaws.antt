-- The section steps of a decimation: a stage's sections step once for each of its output frames. Assumes nothing.
use mathlib.Core.Path.{◌≡◌, refl, ◌∙◌, ap}
use mathlib.Core.List.{[], ◌∷◌}
use Prim.Native.Nat.{ℕ, zero, suc, ◌+◌, ◌*◌, ◌^◌, ◌≤◌, ◌<◌}
use native.Mathlib.Decide.{ℕ_discrete}
use native.Mathlib.Nat.{zero-add}
use native.Mathlib.Omega.{arith}
use Rattle.grid.proofs.FunctionLaws.{upd_same, upd_other}
use Rattle.halfband.specs.Halfband.{Sections, Chain, View, output, step, chain, frame, after, stage, cascade}
use Rattle.halfband.proofs.Cuts.{stage_cell, stage_cells, cascade_suc, cascade_above}
use Rattle.plan.specs.Sums.{sum}
use Rattle.plan.specs.Counting.{counting, sections_by, zeros, section_steps, cascade_steps}
use Rattle.plan.proofs.SumLaws.{sum_same, sum_const}

-- ---- sections

-- those from i on have not stepped,
chain_above : (i : ℕ) (v : Chain ℕ) (j : ℕ) → i ≤ j → (chain counting [] i v).cells (2 * j + 1) ≡ v.cells (2 * j + 1)
unfolding chain step
chain_above zero v j h = refl
chain_above (suc i) v j h =
    upd_other _ (2 * i + 1) _ (2 * j + 1) (λ e. omega arith) ∙ upd_other _ (2 * i) _ (2 * j + 1) (λ e. omega arith) ∙ chain_above i v j (omega arith)

-- and those below have, once
chain_below : (i : ℕ) (v : Chain ℕ) (j : ℕ) → j < i → (chain counting [] i v).cells (2 * j + 1) ≡ v.cells (2 * j + 1) + 1
unfolding chain step output
chain_below zero v j h = absurd (omega arith)
chain_below (suc i) v j h = go (ℕ_discrete j i) (chain_below i v j)
  where
    go : Dec (j ≡ i) → (j < i → (chain counting [] i v).cells (2 * j + 1) ≡ v.cells (2 * j + 1) + 1)
        → (step counting [] i (chain counting [] i v)).cells (2 * j + 1) ≡ v.cells (2 * j + 1) + 1
    go (yes e) ih = rw e (upd_same _ (2 * i + 1) _ ∙ ap (λ (k : ℕ). k + 1) (chain_above i v i (omega arith)))
    go (no ne) ih = upd_other _ (2 * i + 1) _ (2 * j + 1) (λ e. ne (omega arith)) ∙ upd_other _ (2 * i) _ (2 * j + 1) (λ e. omega arith) ∙ ih (omega arith)

-- ---- frames

module _ (counts : ℕ → ℕ) (d : ℕ) where
  abbrev D : Sections ℕ
  D = sections_by counts d

  after_counted : (z s : ℕ → ℕ) (k j : ℕ) → j < counts d → after counting D z s k (2 * j + 1) ≡ z (2 * j + 1) + k
  unfolding after frame
  after_counted z s zero j h = omega arith
  after_counted z s (suc k) j h =
      let so = after_counted z s k j h in
      chain_below (counts d) (record { cells = after counting D z s k; paths = s (2 * k + 1) ∷ s (2 * k) ∷ [] }) j h ∙ omega (arith, so)

-- ---- stages

module _ (counts : ℕ → ℕ) (f : ℕ) where
  -- after the first stage to run of s + 1
  abbrev next : ℕ → View ℕ → View ℕ
  next s v = stage counting (sections_by counts s) s (f * 2 ^ s) v

  cascade_counted : (s : ℕ) (v : View ℕ) (b j : ℕ) → b < s → j < counts b
      → (cascade counting (sections_by counts) s f v).cells b (2 * j + 1) ≡ v.cells b (2 * j + 1) + f * 2 ^ b
  cascade_counted zero v b j h l = absurd (omega arith)
  cascade_counted (suc s) v b j h l = rw (cascade_suc counting (sections_by counts) s f v) (go (ℕ_discrete b s) (λ less. cascade_counted s _ b j less l))
    where
      go : Dec (b ≡ s) → (b < s → (cascade counting (sections_by counts) s f (next s v)).cells b (2 * j + 1) ≡ (next s v).cells b (2 * j + 1) + f * 2 ^ b)
          → (cascade counting (sections_by counts) s f (next s v)).cells b (2 * j + 1) ≡ v.cells b (2 * j + 1) + f * 2 ^ b
      go (yes e) ih =
          rw e
          (ap (λ (z : ℕ → ℕ). z (2 * j + 1)) (cascade_above counting (sections_by counts) s f (next s v) s (omega arith) ∙ stage_cell counting (sections_by counts s) s (f * 2 ^ s) v)
          ∙ after_counted counts s (v.cells s) v.rows (f * 2 ^ s) j (rw e at l))
      go (no ne) ih = ih (omega arith) ∙ ap (λ (z : ℕ → ℕ). z (2 * j + 1) + f * 2 ^ b) (stage_cells counting (sections_by counts s) s (f * 2 ^ s) v b ne)

  section_steps_lem : (s b i : ℕ) → b < s → i < counts b → section_steps counts s f b i ≡ f * 2 ^ b
  section_steps_lem s b i h l = cascade_counted s zeros b i h l ∙ zero-add (f * 2 ^ b)

  -- each stage's sections times its frames
  pub steps_are : (s : ℕ) → cascade_steps counts s f ≡ sum s (λ b. counts b * (f * 2 ^ b))
  unfolding cascade_steps
  steps_are s = sum_same s _ _ (λ b h. sum_same (counts b) _ _ (λ i l. section_steps_lem s b i h l) ∙ sum_const (counts b) (f * 2 ^ b))
