-- "The same patch" is an equivalence: of patches, and of accepted files. Assumes nothing.
use mathlib.Core.Path.{◌≡◌, refl, sym, ◌∙◌, ap}
use mathlib.Core.Bool.{Bool, true, false}
use native.Mathlib.Omega.{arith}
use borrow.Author.Tests.{eqb-true, eq-eqb}
use lib.Dec.{eqb}
use Rattle.std.proofs.lemmas.Bool.{and_parts}
use Rattle.files.specs.declared.patches.Patch.{Patch}
use Rattle.files.specs.Patch.{same_patch}
use Rattle.files.specs.Reader.{Reading}
use Rattle.files.specs.Card.{same_of}

-- both slots agree in mode and amount
pub record Agree (p q : Patch) : Type 0 where
  pub mode0 : p.slot0.mode ≡ q.slot0.mode
  pub amount0 : p.slot0.hundredths ≡ q.slot0.hundredths
  pub mode1 : p.slot1.mode ≡ q.slot1.mode
  pub amount1 : p.slot1.hundredths ≡ q.slot1.hundredths

pub same_agree : (p q : Patch) → same_patch p q ≡ true → Agree p q
same_agree p q e =
    let d = and_parts _ (eqb p.slot1.hundredths q.slot1.hundredths) e in
    let c = and_parts _ (eqb p.slot1.mode q.slot1.mode) d.0 in
    let b = and_parts (eqb p.slot0.mode q.slot0.mode) (eqb p.slot0.hundredths q.slot0.hundredths) c.0 in
    record {
      mode0 = eqb-true _ _ b.0;
      amount0 = eqb-true _ _ b.1;
      mode1 = eqb-true _ _ c.1;
      amount1 = eqb-true _ _ d.1;
    }

pub agree_same : (p q : Patch) → Agree p q → same_patch p q ≡ true
agree_same p q a =
    rw (eq-eqb _ _ a.mode0, eq-eqb _ _ a.amount0, eq-eqb _ _ a.mode1, eq-eqb _ _ a.amount1)

agree_refl : (p : Patch) → Agree p p
agree_refl p = record { mode0 = refl; amount0 = refl; mode1 = refl; amount1 = refl }

agree_sym : {p q : Patch} → Agree p q → Agree q p
agree_sym a = record { mode0 = sym a.mode0; amount0 = sym a.amount0; mode1 = sym a.mode1; amount1 = sym a.amount1 }

agree_trans : {p q r : Patch} → Agree p q → Agree q r → Agree p r
agree_trans a b =
    record {
      mode0 = a.mode0 ∙ b.mode0;
      amount0 = a.amount0 ∙ b.amount0;
      mode1 = a.mode1 ∙ b.mode1;
      amount1 = a.amount1 ∙ b.amount1;
    }

pub same_refl : (p : Patch) → same_patch p p ≡ true
same_refl p = agree_same p p (agree_refl p)

pub same_sym : (p q : Patch) → same_patch p q ≡ true → same_patch q p ≡ true
same_sym p q e = agree_same q p (agree_sym (same_agree p q e))

pub same_trans : (p q r : Patch) → same_patch p q ≡ true → same_patch q r ≡ true → same_patch p r ≡ true
same_trans p q r e f = agree_same p r (agree_trans (same_agree p q e) (same_agree q r f))

-- ---- of files

-- both are accepted, and their patches agree
pub record SameFiles (a b : Reading) : Type 0 where
  pub first : a.number ≡ 0
  pub second : b.number ≡ 0
  pub agree : Agree a.patch b.patch

pub files_agree : (a b : Reading) → (same_of a b).same ≡ 1 → SameFiles a b
unfolding same_of
files_agree a b one = go (eqb a.number 0) (eqb b.number 0) (same_patch a.patch b.patch) refl refl refl
  where
    go : (x y z : Bool) → eqb a.number 0 ≡ x → eqb b.number 0 ≡ y → same_patch a.patch b.patch ≡ z → SameFiles a b
    go false y z ex ey ez = absurd (let no : 0 ≡ 1 = rw ex at one in omega arith)
    go true false z ex ey ez = absurd (let no : 0 ≡ 1 = rw (ex, ey) at one in omega arith)
    go true true false ex ey ez = absurd (let no : 0 ≡ 1 = rw (ex, ey, ez) at one in omega arith)
    go true true true ex ey ez =
        record { first = eqb-true _ _ ex; second = eqb-true _ _ ey; agree = same_agree a.patch b.patch ez }

pub agree_files : (a b : Reading) → SameFiles a b → same_of a b ≡ record { number = 0; same = 1 }
unfolding same_of
agree_files a b s = rw (eq-eqb _ 0 s.first, eq-eqb _ 0 s.second, agree_same a.patch b.patch s.agree)

pub files_refl : (a : Reading) → a.number ≡ 0 → (same_of a a).same ≡ 1
files_refl a z = ap (λ r. r.same) (agree_files a a (record { first = z; second = z; agree = agree_refl a.patch }))

pub files_sym : (a b : Reading) → (same_of a b).same ≡ 1 → (same_of b a).same ≡ 1
files_sym a b e =
    let s = files_agree a b e in
    ap (λ r. r.same) (agree_files b a (record { first = s.second; second = s.first; agree = agree_sym s.agree }))

pub files_trans : (a b c : Reading) → (same_of a b).same ≡ 1 → (same_of b c).same ≡ 1 → (same_of a c).same ≡ 1
files_trans a b c e f =
    let s = files_agree a b e in
    let t = files_agree b c f in
    ap (λ r. r.same) (agree_files a c (record { first = s.first; second = t.second; agree = agree_trans s.agree t.agree }))
