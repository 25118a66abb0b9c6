-- The laws of a stage's sections: a loop over them, and that a stage looks at the cells of its own sections and at no other.
-- Assumes nothing.
use mathlib.Core.Path.{◌≡◌, refl, sym, ◌∙◌, fun_ext}
use mathlib.Core.List.{List, [], ◌∷◌}
use Prim.Native.Nat.{ℕ, zero, suc, ◌+◌, ◌*◌, ◌%◌, ◌≤◌, ◌<◌}
use native.Mathlib.Decide.{dec_lt, ℕ_discrete}
use native.Mathlib.Numerals.{add-one}
use native.Mathlib.Omega.{arith}
use lib.ListN.{length, get_or, set}
use lib.Ieee.{Float, nan}
use Rattle.floats.specs.F32.{◌⊕◌, ◌⊗◌, ½f}
use Rattle.grid.specs.Functions.{upd, upto}
use Rattle.grid.proofs.FunctionLaws.{upd_same, upd_other, upto_in, upto_out}
use Rattle.halfband.specs.Halfband.{Kind, Sections, Chain, input, output, step, chain, frame, mixed, after, out}
use Rattle.halfband.specs.Floats.{floats}
use Rattle.halfband.specs.Promises.{cells_of, Stepped, Framed}

-- ---- a loop over the sections

pub chain_more : {A : Type 0} (K : Kind A) (coefs : List A) (i : ℕ) (v : Chain A)
    → chain K coefs (i + 1) v ≡ step K coefs i (chain K coefs i v)
unfolding chain
chain_more K coefs i v = rw add-one

-- the local cells and the paths after i sections
module _ (coefs z₀ paths₀ : List Float) where
  abbrev linked : ℕ → Chain Float
  linked i = chain floats coefs i (record { cells = cells_of z₀; paths = paths₀ })

  pub record Linked (i : ℕ) (z paths : List Float) : Type 0 where
    pub size : length z ≡ 24
    pub cells : cells_of z ≡ (linked i).cells
    pub held : paths ≡ (linked i).paths

  pub linked_none : length z₀ ≡ 24 → Linked 0 z₀ paths₀
  unfolding chain
  linked_none size = record { size = size; cells = refl; held = refl }

  pub linked_more : (i : ℕ) (z z' paths : List Float) (r : Float) → Linked i z paths
      → Stepped (get_or coefs i nan) i z z' (get_or paths (i % 2) nan) r → Linked (i + 1) z' (set paths (i % 2) r)
  unfolding step input output
  linked_more i z z' paths r was did =
      let said : r ≡ output floats coefs i (linked i) = did.sample ∙ rw (was.cells, was.held) in
      record {
        size = did.size;
        cells = rw chain_more (did.cells ∙ rw (said, was.cells, was.held));
        held = rw chain_more (rw (said, was.held));
      }

-- a frame, once all sections have run
pub framed : (D : Sections Float) (i : ℕ) (z z' paths : List Float) (early late : Float) → i ≡ D.count
    → Linked D.coefs z (late ∷ early ∷ []) i z' paths
    → Framed D z z' early late ((get_or paths 0 nan ⊕ get_or paths 1 nan) ⊗ ½f)
unfolding frame mixed
framed D i z z' paths early late e was =
    record { size = was.size; sample = rw (was.held, e); cells = rw (was.cells, e) }

-- ---- the cells of other sections

module _ {A : Type 0} (K : Kind A) (D : Sections A) where
  -- alike in the cells of the design's sections
  abbrev pub Alike : (ℕ → A) → (ℕ → A) → Type 0
  Alike y z = (i : ℕ) → i < 2 * D.count → y i ≡ z i

  upd_alike : (y z : ℕ → A) (r : ℕ) (a b : A) → Alike y z → a ≡ b → Alike (upd y r a) (upd z r b)
  upd_alike y z r a b h e i hi = go (ℕ_discrete i r)
    where
      go : Dec (i ≡ r) → upd y r a i ≡ upd z r b i
      go (yes p) = rw p (upd_same y r a ∙ e ∙ sym (upd_same z r b))
      go (no ne) = upd_other y r a i ne ∙ h i hi ∙ sym (upd_other z r b i ne)

  -- two chains with the same paths
  record Twins (v w : Chain A) : Type 0 where
    cells : Alike v.cells w.cells
    paths : v.paths ≡ w.paths

  step_twins : (i : ℕ) (v w : Chain A) → i < D.count → Twins v w → Twins (step K D.coefs i v) (step K D.coefs i w)
  unfolding step input output
  step_twins i v w h same =
      let took : input K i v ≡ input K i w = λ t. get_or (same.paths t) (i % 2) K.none in
      let x : v.cells (2 * i) ≡ w.cells (2 * i) = same.cells (2 * i) (omega arith) in
      let y : v.cells (2 * i + 1) ≡ w.cells (2 * i + 1) = same.cells (2 * i + 1) (omega arith) in
      let gave : output K D.coefs i v ≡ output K D.coefs i w =
      λ t. K.section (get_or D.coefs i K.none) (K.load (x t)) (K.load (y t)) (took t) in
      record {
        cells = upd_alike _ _ (2 * i + 1) _ _ (upd_alike _ _ (2 * i) _ _ same.cells took) gave;
        paths = λ t. set (same.paths t) (i % 2) (gave t);
      }

  chain_twins : (i : ℕ) (v w : Chain A) → i ≤ D.count → Twins v w → Twins (chain K D.coefs i v) (chain K D.coefs i w)
  unfolding chain
  chain_twins zero v w h same = same
  chain_twins (suc i) v w h same = step_twins i _ _ (omega arith) (chain_twins i v w (omega arith) same)

  frame_twins : (y z : ℕ → A) (early late : A) → Alike y z → Twins (frame K D y early late) (frame K D z early late)
  unfolding frame
  frame_twins y z early late h = chain_twins D.count _ _ (omega arith) (record { cells = h; paths = refl })

  pub after_alike : (y z s : ℕ → A) (k : ℕ) → Alike y z → Alike (after K D y s k) (after K D z s k)
  unfolding after
  after_alike y z s zero h = h
  after_alike y z s (suc k) h = (frame_twins _ _ (s (2 * k)) (s (2 * k + 1)) (after_alike y z s k h)).cells

  pub out_alike : (y z s : ℕ → A) (k : ℕ) → Alike y z → out K D y s k ≡ out K D z s k
  unfolding out mixed
  out_alike y z s k h = rw (frame_twins _ _ (s (2 * k)) (s (2 * k + 1)) (after_alike y z s k h)).paths

  -- they stay
  chain_past : (i : ℕ) (v : Chain A) (j : ℕ) → i ≤ D.count → 2 * D.count ≤ j → (chain K D.coefs i v).cells j ≡ v.cells j
  unfolding chain step
  chain_past zero v j h b = refl
  chain_past (suc i) v j h b =
      upd_other _ (2 * i + 1) _ j (omega arith) ∙ upd_other _ (2 * i) _ j (omega arith) ∙ chain_past i v j (omega arith) b

  pub after_past : (z s : ℕ → A) (k j : ℕ) → 2 * D.count ≤ j → after K D z s k j ≡ z j
  unfolding after frame
  after_past z s zero j b = refl
  after_past z s (suc k) j b = chain_past D.count _ j (omega arith) b ∙ after_past z s k j b

  -- so the stage's own cells are enough
  pub after_upto : (y z s : ℕ → A) (k : ℕ) → Alike y z → upto (2 * D.count) (after K D y s k) z ≡ after K D z s k
  after_upto y z s k h = fun_ext (λ j. go j (dec_lt j (2 * D.count)))
    where
      go : (j : ℕ) → Dec (j < 2 * D.count) → upto (2 * D.count) (after K D y s k) z j ≡ after K D z s k j
      go j (yes b) = upto_in _ _ _ j b ∙ after_alike y z s k h j b
      go j (no b) = upto_out _ _ _ j (omega arith) ∙ sym (after_past z s k j (omega arith))
