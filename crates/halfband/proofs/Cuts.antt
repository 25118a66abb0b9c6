-- A block that is decimated in two consecutive ranges gives what it gives in one call. Assumes nothing.
use mathlib.Core.Path.{◌≡◌, refl, sym, ◌∙◌, ap}
use Prim.Native.Nat.{ℕ, zero, suc, ◌+◌, ◌*◌, ◌^◌, ◌≤◌, ◌<◌}
use native.Mathlib.Decide.{ℕ_discrete}
use native.Mathlib.Nat.{add-zero, add-suc, add_assoc, mul-add, add-mul, mul_assoc, mul_comm, pow-suc}
use native.Mathlib.Omega.{arith}
use Rattle.grid.proofs.FunctionLaws.{upd_same, upd_other, upto_in, upto_out}
use Rattle.halfband.specs.Halfband.{Kind, Sections, View, frame, after, out, stage, cascade}
use Rattle.halfband.specs.Ranges.{from}

-- ---- one stage

module _ {A : Type 0} (K : Kind A) (D : Sections A) where
  after_suc : (z s : ℕ → A) (k : ℕ) → after K D z s (suc k) ≡ (frame K D (after K D z s k) (s (2 * k)) (s (2 * k + 1))).cells
  unfolding after
  after_suc z s k = refl

  -- it looks at the samples of its frames, and at no other
  pub after_agree : (z s t : ℕ → A) (k : ℕ) → ((r : ℕ) → r < 2 * k → s r ≡ t r) → after K D z s k ≡ after K D z t k
  unfolding after
  after_agree z s t zero h = refl
  after_agree z s t (suc k) h =
      rw (
        after_suc z s k,
        after_suc z t k,
        after_agree z s t k (λ r hr. h r (omega arith)),
        h (2 * k) (omega arith),
        h (2 * k + 1) (omega arith),
      )

  pub out_agree : (z s t : ℕ → A) (k : ℕ) → ((r : ℕ) → r < 2 * k + 2 → s r ≡ t r) → out K D z s k ≡ out K D z t k
  unfolding out
  out_agree z s t k h =
      rw (after_agree z s t k (λ r hr. h r (omega arith)), h (2 * k) (omega arith), h (2 * k + 1) (omega arith))

  -- a frames and then k more are a + k frames
  pub after_cut : (z s : ℕ → A) (a k : ℕ) → after K D z s (a + k) ≡ after K D (after K D z s a) (from (2 * a) s) k
  unfolding after
  after_cut z s a zero = rw add-zero
  after_cut z s a (suc k) =
      rw (
        add-suc a k,
        after_suc z s (a + k),
        after_suc (after K D z s a) (from (2 * a) s) k,
        after_cut z s a k,
        mul-add 2 a k,
        add_assoc,
      )

  pub out_cut : (z s : ℕ → A) (a k : ℕ) → out K D z s (a + k) ≡ out K D (after K D z s a) (from (2 * a) s) k
  unfolding out
  out_cut z s a k = rw (after_cut z s a k, mul-add 2 a k, add_assoc)

  -- ---- in place

  pub stage_rows : (b f : ℕ) (v : View A) (r : ℕ) → r < f → (stage K D b f v).rows r ≡ out K D (v.cells b) v.rows r
  unfolding stage
  stage_rows b f v r h = upto_in f _ _ r h

  pub stage_past : (b f : ℕ) (v : View A) (r : ℕ) → f ≤ r → (stage K D b f v).rows r ≡ v.rows r
  unfolding stage
  stage_past b f v r h = upto_out f _ _ r h

  pub stage_cell : (b f : ℕ) (v : View A) → (stage K D b f v).cells b ≡ after K D (v.cells b) v.rows f
  unfolding stage
  stage_cell b f v = upd_same v.cells b _

  pub stage_cells : (b f : ℕ) (v : View A) (c : ℕ) → (c ≡ b → ⊥) → (stage K D b f v).cells c ≡ v.cells c
  unfolding stage
  stage_cells b f v c h = upd_other v.cells b _ c h

-- ---- the cascade

module _ {A : Type 0} (K : Kind A) (Ds : ℕ → Sections A) where
  pub cascade_suc : (s f : ℕ) (v : View A) → cascade K Ds (suc s) f v ≡ cascade K Ds s f (stage K (Ds s) s (f * 2 ^ s) v)
  unfolding cascade
  cascade_suc s f v = refl

  -- s stages leave the blocks from s on
  pub cascade_above : (s f : ℕ) (v : View A) (c : ℕ) → s ≤ c → (cascade K Ds s f v).cells c ≡ v.cells c
  unfolding cascade
  cascade_above zero f v c h = refl
  cascade_above (suc s) f v c h =
      rw (cascade_suc s f v) (cascade_above s f _ c (omega arith) ∙ stage_cells K (Ds s) s (f * 2 ^ s) v c (omega arith))

  -- and the rows from f × 2 ^ (s - 1) on
  pub cascade_past : (s f : ℕ) (v : View A) (r : ℕ) → f * 2 ^ s ≤ r → (cascade K Ds (suc s) f v).rows r ≡ v.rows r
  unfolding cascade
  cascade_past zero f v r h = stage_past K (Ds 0) 0 (f * 2 ^ 0) v r h
  cascade_past (suc s) f v r h =
      let less : f * 2 ^ s ≤ r = omega (arith, rw (pow-suc, ← mul_assoc) at h) in
      rw (cascade_suc (suc s) f v) (cascade_past s f _ r less ∙ stage_past K (Ds (suc s)) (suc s) (f * 2 ^ suc s) v r h)

  -- v is the whole block's view, p the first range's and q the second's, which starts with the cells that the first left. What lies
  -- past a range's rows may be anything
  pub record Cut (s a b : ℕ) (v p q : View A) : Type 0 where
    pub first_rows : (r : ℕ) → r < a * 2 ^ s → p.rows r ≡ v.rows r
    pub first_cells : (c : ℕ) → c < s → p.cells c ≡ v.cells c
    pub next_rows : (r : ℕ) → r < b * 2 ^ s → q.rows r ≡ v.rows (a * 2 ^ s + r)
    pub next_cells : (c : ℕ) → c < s → q.cells c ≡ (cascade K Ds s a p).cells c

  -- what the two ranges give is what the block gives
  pub record Joined (s a b : ℕ) (v p q : View A) : Type 0 where
    pub first_rows : (r : ℕ) → r < a → (cascade K Ds s a p).rows r ≡ (cascade K Ds s (a + b) v).rows r
    pub next_rows : (r : ℕ) → r < b → (cascade K Ds s b q).rows r ≡ (cascade K Ds s (a + b) v).rows (a + r)
    pub cells : (c : ℕ) → c < s → (cascade K Ds s b q).cells c ≡ (cascade K Ds s (a + b) v).cells c

  -- one stage over the block and over the two ranges
  module _ (s a b : ℕ) (v p q : View A) (cut : Cut (suc s) a b v p q) where
    abbrev D : Sections A
    D = Ds s

    double : (x : ℕ) → x * 2 ^ suc s ≡ 2 * (x * 2 ^ s)
    double x = rw (pow-suc, ← mul_assoc x (2 ^ s) 2) (mul_comm (x * 2 ^ s) 2)

    sum : (a + b) * 2 ^ s ≡ a * 2 ^ s + b * 2 ^ s
    sum = add-mul a b (2 ^ s)

    -- the second range starts with the cells that the first left
    start : q.cells s ≡ after K D (v.cells s) v.rows (a * 2 ^ s)
    start =
        cut.next_cells s (omega arith)
        ∙ ap (λ (w : View A). w.cells s) (cascade_suc s a p)
        ∙ cascade_above s a _ s (omega arith)
        ∙ stage_cell K D s (a * 2 ^ s) p
        ∙ rw (cut.first_cells s (omega arith))
        (after_agree K D (v.cells s) p.rows v.rows (a * 2 ^ s) (λ r hr. cut.first_rows r (omega (arith, double a))))

    -- and its samples are the block's from there on
    later : (r : ℕ) → r < 2 * (b * 2 ^ s) → q.rows r ≡ from (2 * (a * 2 ^ s)) v.rows r
    later r h = cut.next_rows r (omega (arith, double b)) ∙ ap (λ (x : ℕ). v.rows (x + r)) (double a)

    stage_cut : Cut s a b (stage K D s ((a + b) * 2 ^ s) v) (stage K D s (a * 2 ^ s) p) (stage K D s (b * 2 ^ s) q)
    stage_cut =
        record {
          first_rows = λ r h.
              stage_rows K D s (a * 2 ^ s) p r h
              ∙ rw (cut.first_cells s (omega arith))
              (out_agree K D (v.cells s) p.rows v.rows r (λ i hi. cut.first_rows i (omega (arith, double a))))
              ∙ sym (stage_rows K D s ((a + b) * 2 ^ s) v r (omega (arith, sum)));
          first_cells = λ c h.
              stage_cells K D s (a * 2 ^ s) p c (omega arith) ∙ cut.first_cells c (omega arith)
              ∙ sym (stage_cells K D s ((a + b) * 2 ^ s) v c (omega arith));
          next_rows = λ r h.
              stage_rows K D s (b * 2 ^ s) q r h
              ∙ rw start (out_agree K D _ q.rows (from (2 * (a * 2 ^ s)) v.rows) r (λ i hi. later i (omega arith)))
              ∙ sym (out_cut K D (v.cells s) v.rows (a * 2 ^ s) r)
              ∙ sym (stage_rows K D s ((a + b) * 2 ^ s) v (a * 2 ^ s + r) (omega (arith, sum)));
          next_cells = λ c h.
              stage_cells K D s (b * 2 ^ s) q c (omega arith) ∙ cut.next_cells c (omega arith)
              ∙ ap (λ (w : View A). w.cells c) (cascade_suc s a p);
        }

    stage_last : (stage K D s (b * 2 ^ s) q).cells s ≡ (stage K D s ((a + b) * 2 ^ s) v).cells s
    stage_last =
        stage_cell K D s (b * 2 ^ s) q
        ∙ rw start (after_agree K D _ q.rows (from (2 * (a * 2 ^ s)) v.rows) (b * 2 ^ s) later)
        ∙ sym (after_cut K D (v.cells s) v.rows (a * 2 ^ s) (b * 2 ^ s))
        ∙ ap (λ (k : ℕ). after K D (v.cells s) v.rows k) (sym sum)
        ∙ sym (stage_cell K D s ((a + b) * 2 ^ s) v)

  pub cut_joined : (s a b : ℕ) (v p q : View A) → Cut s a b v p q → Joined s a b v p q
  unfolding cascade
  cut_joined zero a b v p q cut =
      record {
        first_rows = λ r h. cut.first_rows r (omega arith);
        next_rows = λ r h. cut.next_rows r (omega arith) ∙ ap (λ (x : ℕ). v.rows (x + r)) (omega arith);
        cells = λ c h. absurd (omega arith);
      }
  cut_joined (suc s) a b v p q cut =
      let v1 : View A = stage K (Ds s) s ((a + b) * 2 ^ s) v in
      let p1 : View A = stage K (Ds s) s (a * 2 ^ s) p in
      let q1 : View A = stage K (Ds s) s (b * 2 ^ s) q in
      let ih : Joined s a b v1 p1 q1 = cut_joined s a b v1 p1 q1 (stage_cut s a b v p q cut) in
      record { first_rows = ih.first_rows; next_rows = ih.next_rows; cells = λ c h. go c (ℕ_discrete c s) h ih }
    where
      go : (c : ℕ) → Dec (c ≡ s) → c < suc s
          → Joined s a b (stage K (Ds s) s ((a + b) * 2 ^ s) v) (stage K (Ds s) s (a * 2 ^ s) p) (stage K (Ds s) s (b * 2 ^ s) q)
          → (cascade K Ds s b (stage K (Ds s) s (b * 2 ^ s) q)).cells c
          ≡ (cascade K Ds s (a + b) (stage K (Ds s) s ((a + b) * 2 ^ s) v)).cells c
      go c (yes e) h ih =
          rw e
          (cascade_above s b _ s (omega arith) ∙ stage_last s a b v p q cut ∙ sym (cascade_above s (a + b) _ s (omega arith)))
      go c (no ne) h ih = ih.cells c (omega arith)
