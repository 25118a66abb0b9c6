-- The laws of functions with some of their values replaced. Assumes nothing.
use mathlib.Core.Path.{◌≡◌, refl, sym, ◌∙◌, fun_ext}
use Prim.Native.Nat.{ℕ, ◌+◌, ◌-◌, ◌≤◌, ◌<◌}
use native.Mathlib.Decide.{dec_lt, ℕ_discrete}
use native.Mathlib.Omega.{arith}
use borrow.Author.Tests.{lt-ltb, le-ltb, le-leb, lt-leb, eq-eqb, ne_eqb}
use Rattle.grid.specs.Functions.{upd, upto, span}

module _ {A : Type 0} where
  -- ---- one value

  pub upd_same : (f : ℕ → A) (r : ℕ) (v : A) → upd f r v r ≡ v
  unfolding upd
  upd_same f r v = rw (eq-eqb r r refl)

  pub upd_other : (f : ℕ → A) (r : ℕ) (v : A) (s : ℕ) → (s ≡ r → ⊥) → upd f r v s ≡ f s
  unfolding upd
  upd_other f r v s ne = rw (ne_eqb s r ne)

  -- a function that is v at r and f elsewhere
  pub upd_by : (f g : ℕ → A) (r : ℕ) (v : A) → g r ≡ v → ((s : ℕ) → (s ≡ r → ⊥) → g s ≡ f s) → upd f r v ≡ g
  upd_by f g r v here there = fun_ext (λ s. go s (ℕ_discrete s r))
    where
      go : (s : ℕ) → Dec (s ≡ r) → upd f r v s ≡ g s
      go s (yes e) = rw e (upd_same f r v ∙ sym here)
      go s (no ne) = upd_other f r v s ne ∙ sym (there s ne)

  pub upd_upd : (f : ℕ → A) (r : ℕ) (v w : A) → upd (upd f r v) r w ≡ upd f r w
  upd_upd f r v w = upd_by _ _ r w (upd_same f r w) (λ s ne. upd_other f r w s ne ∙ sym (upd_other f r v s ne))

  pub upd_self : (f : ℕ → A) (r : ℕ) → upd f r (f r) ≡ f
  upd_self f r = upd_by f f r (f r) refl (λ s ne. refl)

  -- ---- the values below k

  pub upto_in : (k : ℕ) (f g : ℕ → A) (r : ℕ) → r < k → upto k f g r ≡ f r
  unfolding upto
  upto_in k f g r h = rw (lt-ltb r k h)

  pub upto_out : (k : ℕ) (f g : ℕ → A) (r : ℕ) → k ≤ r → upto k f g r ≡ g r
  unfolding upto
  upto_out k f g r h = rw (le-ltb r k h)

  pub upto_none : (f g : ℕ → A) → upto 0 f g ≡ g
  upto_none f g = fun_ext (λ r. upto_out 0 f g r (omega arith))

  pub upto_more : (k : ℕ) (f g : ℕ → A) → upd (upto k f g) k (f k) ≡ upto (k + 1) f g
  upto_more k f g = upd_by _ _ k (f k) (upto_in (k + 1) f g k (omega arith)) (λ s ne. go s ne (dec_lt s k))
    where
      go : (s : ℕ) → (s ≡ k → ⊥) → Dec (s < k) → upto (k + 1) f g s ≡ upto k f g s
      go s ne (yes h) = upto_in (k + 1) f g s (omega arith) ∙ sym (upto_in k f g s h)
      go s ne (no h) = upto_out (k + 1) f g s (omega arith) ∙ sym (upto_out k f g s (omega arith))

  -- ---- k values from a on

  -- value r of f
  pub span_in : (a k : ℕ) (f g : ℕ → A) (r : ℕ) → r < k → span a k f g (a + r) ≡ f r
  unfolding span
  span_in a k f g r h =
      let e : a + r - a ≡ r = omega arith in
      rw (le-leb a (a + r) (omega arith), lt-ltb (a + r) (a + k) (omega arith), e)

  pub span_below : (a k : ℕ) (f g : ℕ → A) (r : ℕ) → r < a → span a k f g r ≡ g r
  unfolding span
  span_below a k f g r h = rw (lt-leb a r h)

  pub span_above : (a k : ℕ) (f g : ℕ → A) (r : ℕ) → a + k ≤ r → span a k f g r ≡ g r
  unfolding span
  span_above a k f g r h = rw (le-leb a r (omega arith), le-ltb r (a + k) h)

  -- a function that has f's values from a on, and g's below and above
  pub span_by : (a k : ℕ) (f g u : ℕ → A) → ((r : ℕ) → r < k → u (a + r) ≡ f r) → ((r : ℕ) → r < a → u r ≡ g r)
      → ((r : ℕ) → a + k ≤ r → u r ≡ g r) → span a k f g ≡ u
  span_by a k f g u at below above = fun_ext (λ r. go r (dec_lt r a) (dec_lt r (a + k)))
    where
      go : (r : ℕ) → Dec (r < a) → Dec (r < a + k) → span a k f g r ≡ u r
      go r (yes h) more = span_below a k f g r h ∙ sym (below r h)
      go r (no h) (yes m) =
          let e : r ≡ a + (r - a) = omega arith in
          rw e (span_in a k f g (r - a) (omega arith) ∙ sym (at (r - a) (omega arith)))
      go r (no h) (no m) = span_above a k f g r (omega arith) ∙ sym (above r (omega arith))

  pub span_none : (a : ℕ) (f g : ℕ → A) → span a 0 f g ≡ g
  span_none a f g = span_by a 0 f g g (λ r h. absurd (omega arith)) (λ r h. refl) (λ r h. refl)

  pub span_more : (a k : ℕ) (f g : ℕ → A) → upd (span a k f g) (a + k) (f k) ≡ span a (k + 1) f g
  span_more a k f g =
      sym
      (span_by a (k + 1) f g _ (λ r h. go r h (ℕ_discrete r k))
      (λ r h. upd_other _ _ _ r (λ e. omega arith) ∙ span_below a k f g r h)
      (λ r h. upd_other _ _ _ r (λ e. omega arith) ∙ span_above a k f g r (omega arith)))
    where
      go : (r : ℕ) → r < k + 1 → Dec (r ≡ k) → upd (span a k f g) (a + k) (f k) (a + r) ≡ f r
      go r h (yes e) = rw e (upd_same _ _ _)
      go r h (no ne) = upd_other _ _ _ (a + r) (λ e. ne (omega arith)) ∙ span_in a k f g r (omega arith)

  -- j values and then k more are j + k values
  pub span_join : (a j k : ℕ) (f g : ℕ → A) → span (a + j) k (λ i. f (j + i)) (span a j f g) ≡ span a (j + k) f g
  span_join a j k f g =
      span_by (a + j) k _ _ _
      (λ r h. let e : a + j + r ≡ a + (j + r) = omega arith in rw e (span_in a (j + k) f g (j + r) (omega arith)))
      (λ r h. go r h (dec_lt r a))
      (λ r h. span_above a (j + k) f g r (omega arith) ∙ sym (span_above a j f g r (omega arith)))
    where
      go : (r : ℕ) → r < a + j → Dec (r < a) → span a (j + k) f g r ≡ span a j f g r
      go r h (yes b) = span_below a (j + k) f g r b ∙ sym (span_below a j f g r b)
      go r h (no b) =
          let e : r ≡ a + (r - a) = omega arith in
          rw e (span_in a (j + k) f g (r - a) (omega arith) ∙ sym (span_in a j f g (r - a) (omega arith)))
