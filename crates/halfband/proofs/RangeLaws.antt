-- A block that is decimated in any list of consecutive ranges gives what it gives in one call: every output, and every cell of the
-- state, those of unused stages too. Assumes nothing.
use mathlib.Core.Path.{◌≡◌, refl, sym, ◌∙◌, ap, fun_ext}
use mathlib.Core.List.{List, [], ◌∷◌}
use Prim.Native.Nat.{ℕ, zero, suc, ◌+◌, ◌-◌, ◌*◌, ◌^◌, ◌≤◌, ◌<◌}
use native.Mathlib.Decide.{dec_lt}
use native.Mathlib.Nat.{add-zero, zero-mul}
use native.Mathlib.Omega.{arith}
use Rattle.grid.proofs.FunctionLaws.{upto_in, upto_out, upto_none, upd_self}
use Rattle.halfband.specs.Halfband.{Kind, Sections, View, after, out, stage, cascade}
use Rattle.halfband.specs.Ranges.{from, total, one, cells_after, outputs}
use Rattle.halfband.proofs.Cuts.{cascade_above, Joined, cut_joined}

module _ {A : Type 0} (K : Kind A) (Ds : ℕ → Sections A) where
  stage_still : (D : Sections A) (b : ℕ) (v : View A) → stage K D b 0 v ≡ v
  unfolding stage after
  stage_still D b v =
      let rows = upto_none (out K D (v.cells b) v.rows) v.rows in
      let cells = upd_self v.cells b in
      λ j. record { rows = rows j; cells = cells j }

  -- no frame leaves all rows and cells
  pub cascade_still : (s : ℕ) (v : View A) → cascade K Ds s 0 v ≡ v
  unfolding cascade
  cascade_still zero v = refl
  cascade_still (suc s) v = rw (zero-mul, stage_still) (cascade_still s v)

  pub cascade_none : (s : ℕ) (v : View A) → (cascade K Ds s 0 v).cells ≡ v.cells
  cascade_none s v = ap (λ (u : View A). u.cells) (cascade_still s v)

-- a call for f frames looks at its own samples and the cells of its own stages, and at no other
module _ {A : Type 0} (K : Kind A) (Ds : ℕ → Sections A) (s f : ℕ) (v w : View A)
    (rows : (r : ℕ) → r < f * 2 ^ s → w.rows r ≡ v.rows r) (cells : (c : ℕ) → c < s → w.cells c ≡ v.cells c) where
  abbrev rest : View A
  rest = record { rows = from (f * 2 ^ s) v.rows; cells = (cascade K Ds s f w).cells }

  whole : Joined K Ds s f 0 v w rest
  whole =
      cut_joined K Ds s f 0 v w rest
      (record { first_rows = rows; first_cells = cells; next_rows = λ r h. refl; next_cells = λ c h. refl })

  pub agree_rows : (r : ℕ) → r < f → (cascade K Ds s f w).rows r ≡ (cascade K Ds s f v).rows r
  agree_rows r h = rw add-zero at (whole.first_rows r h)

  pub agree_cells : (c : ℕ) → c < s → (cascade K Ds s f w).cells c ≡ (cascade K Ds s f v).cells c
  agree_cells c h =
      ap (λ (g : ℕ → ℕ → A). g c) (sym (cascade_none K Ds s rest)) ∙ (rw add-zero at (whole.cells c h))

module _ {A : Type 0} (K : Kind A) (Ds : ℕ → Sections A) (s : ℕ) where
  -- the first range, and the rest as one call
  joined : (f : ℕ) (fs : List ℕ) (x : ℕ → A) (z : ℕ → ℕ → A)
      → Joined K Ds s f (total fs) (record { rows = x; cells = z }) (record { rows = x; cells = z })
      (record { rows = from (f * 2 ^ s) x; cells = (one K Ds s f x z).cells })
  joined f fs x z =
      cut_joined K Ds s f (total fs) _ _ _
      (record {
        first_rows = λ r h. refl;
        first_cells = λ c h. refl;
        next_rows = λ r h. refl;
        next_cells = λ c h. refl;
      })

  used_cells : (fs : List ℕ) (x : ℕ → A) (z : ℕ → ℕ → A) (c : ℕ) → c < s
      → cells_after K Ds s fs x z c ≡ (one K Ds s (total fs) x z).cells c
  unfolding cells_after total
  used_cells [] x z c h = ap (λ (g : ℕ → ℕ → A). g c) (sym (cascade_none K Ds s (record { rows = x; cells = z })))
  used_cells (f ∷ fs) x z c h = used_cells fs _ _ c h ∙ (joined f fs x z).cells c h

  unused_cells : (fs : List ℕ) (x : ℕ → A) (z : ℕ → ℕ → A) (c : ℕ) → s ≤ c → cells_after K Ds s fs x z c ≡ z c
  unfolding cells_after
  unused_cells [] x z c h = refl
  unused_cells (f ∷ fs) x z c h = unused_cells fs _ _ c h ∙ cascade_above K Ds s f _ c h

  pub same_cells : (fs : List ℕ) (x : ℕ → A) (z : ℕ → ℕ → A) → cells_after K Ds s fs x z ≡ (one K Ds s (total fs) x z).cells
  same_cells fs x z = fun_ext (λ c. go c (dec_lt c s))
    where
      go : (c : ℕ) → Dec (c < s) → cells_after K Ds s fs x z c ≡ (one K Ds s (total fs) x z).cells c
      go c (yes h) = used_cells fs x z c h
      go c (no h) = unused_cells fs x z c (omega arith) ∙ sym (cascade_above K Ds s (total fs) _ c (omega arith))

  pub same_outputs : (fs : List ℕ) (x : ℕ → A) (z : ℕ → ℕ → A) (r : ℕ) → r < total fs
      → outputs K Ds s fs x z r ≡ (one K Ds s (total fs) x z).rows r
  unfolding outputs total
  same_outputs [] x z r h = absurd (omega arith)
  same_outputs (f ∷ fs) x z r h = go (dec_lt r f) (same_outputs fs _ _)
    where
      go : Dec (r < f)
          → ((i : ℕ) → i < total fs → outputs K Ds s fs (from (f * 2 ^ s) x) (one K Ds s f x z).cells i
          ≡ (one K Ds s (total fs) (from (f * 2 ^ s) x) (one K Ds s f x z).cells).rows i)
          → outputs K Ds s (f ∷ fs) x z r ≡ (one K Ds s (f + total fs) x z).rows r
      go (yes b) ih = upto_in f _ _ r b ∙ (joined f fs x z).first_rows r b
      go (no b) ih =
          let back : f + (r - f) ≡ r = omega arith in
          upto_out f _ _ r (omega arith) ∙ ih (r - f) (omega arith) ∙ (joined f fs x z).next_rows (r - f) (omega arith)
          ∙ ap (λ (i : ℕ). (one K Ds s (f + total fs) x z).rows i) back
