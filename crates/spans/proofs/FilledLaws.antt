-- The laws of a lane's sub-blocks, one row after another in its three spans. Assumes nothing.
use mathlib.Core.Path.{◌≡◌, refl, sym, ◌∙◌, ap}
use mathlib.Core.List.{List}
use Prim.Native.Nat.{ℕ, ◌+◌, ◌*◌, ◌<◌}
use native.Mathlib.Omega.{arith}
use lib.ListN.{length, set}
use lib.Ieee.{Float, nan}
use Rattle.grid.specs.Functions.{upto}
use Rattle.grid.specs.Cells.{col}
use Rattle.grid.specs.Lanes.{Each}
use Rattle.grid.proofs.Index.{row_in}
use Rattle.grid.proofs.FunctionLaws.{upto_none, upto_more}
use Rattle.grid.proofs.CellLaws.{col_set, col_set_other}
use Rattle.grid.proofs.EachLaws.{each_one, one_lane, one_others}
use Rattle.limits.specs.declared.lengths.ControlLengths.{ControlLengths}
use Rattle.controls.specs.Controls.{Controls}
use Rattle.spans.specs.declared.slopes.Span.{Span}
use Rattle.spans.specs.Slopes.{span_at}
use Rattle.spans.specs.Promises.{Takes}
use Rattle.spans.specs.Prepared.{Spans, spans, View, views, filled}

-- ---- where a sub-block is stored

pub stored_in_lem : {frames rows n : ℕ} {controls : ControlLengths} {inner stretch add : ℕ} → Takes frames rows n controls inner stretch add
    → (lane s : ℕ) → lane < n → s < rows → (s * n + lane < inner) × (s * n + lane < stretch) × (s * n + lane < add)
stored_in_lem {rows = rows} {n = n} taken lane s hl hs =
    let h : s * n + lane < rows * n = row_in s rows lane n hs hl in
    (omega arith, omega arith, omega arith)

-- ---- one span

column_none : (n l : ℕ) (was : List Float) (g : ℕ → Float) → col nan n l was ≡ upto 0 g (col nan n l was)
column_none n l was g = sym (upto_none g _)

-- a row more of a lane's column
column_more : (n l s : ℕ) (was xs : List Float) (g : ℕ → Float) (x : Float) → l < n → s * n + l < length xs
    → col nan n l xs ≡ upto s g (col nan n l was) → x ≡ g s → col nan n l (set xs (s * n + l) x) ≡ upto (s + 1) g (col nan n l was)
column_more n l s was xs g x hl at e v = col_set nan n l xs s x hl at ∙ rw (e, v) (upto_more s g _)

-- ---- all three

module _ (mode0 mode1 factor frames rate : ℕ) (curve : Float) (controls : ℕ → Controls) (n l : ℕ) (w : Spans) where
  abbrev Fill : ℕ → ℕ → View → View
  Fill s lane = filled mode0 mode1 factor frames rate curve (controls lane) s

  pub filled_none : Each n l (l + 1) (Fill 0) (views n w) (views n w)
  unfolding filled
  filled_none =
      let inners = column_none n l w.inner (λ s. (span_at mode0 mode1 factor frames rate curve (controls l) s).inner) in
      let stretches = column_none n l w.stretch (λ s. (span_at mode0 mode1 factor frames rate curve (controls l) s).stretch) in
      let adds = column_none n l w.add (λ s. (span_at mode0 mode1 factor frames rate curve (controls l) s).add) in
      each_one (λ i. record { inner = inners i; stretch = stretches i; add = adds i }) (λ m hm ne. refl)

  pub filled_more : (s : ℕ) (inner stretch add : List Float) (x : Span) → l < n → s * n + l < length inner → s * n + l < length stretch
      → s * n + l < length add → x ≡ span_at mode0 mode1 factor frames rate curve (controls l) s
      → Each n l (l + 1) (Fill s) (views n w) (views n (spans inner stretch add))
      → Each n l (l + 1) (Fill (s + 1)) (views n w)
      (views n (spans (set inner (s * n + l) x.inner) (set stretch (s * n + l) x.stretch) (set add (s * n + l) x.add)))
  unfolding filled
  filled_more s inner stretch add x hl hi hs ha e was =
      let here = one_lane was hl in
      let inners = column_more n l s w.inner inner _ x.inner hl hi (ap (λ (v : View). v.inner) here) (ap (λ (y : Span). y.inner) e) in
      let stretches = column_more n l s w.stretch stretch _ x.stretch hl hs (ap (λ (v : View). v.stretch) here) (ap (λ (y : Span). y.stretch) e) in
      let adds = column_more n l s w.add add _ x.add hl ha (ap (λ (v : View). v.add) here) (ap (λ (y : Span). y.add) e) in
      each_one (λ i. record { inner = inners i; stretch = stretches i; add = adds i })
      (λ m hm ne.
      let there = one_others was m hm ne in
      let inners = col_set_other nan n m inner l s x.inner hm hl ne ∙ ap (λ (v : View). v.inner) there in
      let stretches = col_set_other nan n m stretch l s x.stretch hm hl ne ∙ ap (λ (v : View). v.stretch) there in
      let adds = col_set_other nan n m add l s x.add hm hl ne ∙ ap (λ (v : View). v.add) there in
      λ i. record { inner = inners i; stretch = stretches i; add = adds i })
