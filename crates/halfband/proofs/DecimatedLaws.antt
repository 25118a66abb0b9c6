-- The laws of a decimation's promise. Assumes nothing.
use mathlib.Core.Path.{◌≡◌, refl, sym, ◌∙◌, ap}
use mathlib.Core.List.{List}
use Prim.Native.Nat.{ℕ, ◌<◌}
use native.Mathlib.Decide.{ℕ_discrete}
use native.Mathlib.Omega.{arith}
use lib.ListN.{length}
use lib.Ieee.{Float, nan}
use borrow.Author.Tests.{ne_eqb}
use Rattle.std.specs.Prelude.{Result, Ok, Err}
use Rattle.std.specs.Result.{IsErrAnd}
use Rattle.grid.proofs.CellLaws.{same_columns, same_blocks}
use Rattle.grid.proofs.EachLaws.{each_unique}
use Rattle.limits.specs.declared.answers.Answer.{Answer}
use Rattle.limits.specs.declared.refusal.Refusal.{Refusal}
use Rattle.limits.specs.Refusals.{line_of, number_of, answer_of}
use Rattle.limits.proofs.LineLaws.{good_lanes, some_number}
use Rattle.halfband.specs.declared.design.Designs.{Designs}
use Rattle.halfband.specs.Halfband.{View, view, views}
use Rattle.halfband.specs.Floats.{floats}
use Rattle.halfband.specs.Decimated.{call_number, Decimated}
use Rattle.halfband.proofs.RefusalLaws.{accepted, passed}

module _ (ds : Designs) (coefs factor n active f : ℕ) (buf st : List Float) where
  abbrev Number : ℕ
  Number = call_number ds coefs factor n active f (length buf) (length st)

  -- a call that is turned down
  pub turned_down_lem : (r : Result ℕ Refusal) (e : Refusal) → IsErrAnd r (λ x. x ≡ e) → number_of {A = Unit {0}} (Err e) ≡ Number
      → Decimated ds coefs factor n active f buf st buf st (answer_of r)
  unfolding answer_of number_of
  turned_down_lem (Ok x) e handed is = absurd handed
  turned_down_lem (Err x) e handed is =
      record {
        number = ap line_of handed ∙ is;
        frames = rw (handed, ne_eqb (line_of e) 0 (some_number e));
        refused = λ h. (refl, refl);
        lanes = λ z. absurd (some_number e (sym (ap line_of handed) ∙ z));
        lengths = (refl, refl);
      }

  -- designs that came on a slice long enough are whole
  pub of_slice : {buf' st' : List Float} {r : Answer} → Number ≡ 0 → Decimated ds 36 factor n active f buf st buf' st' r
      → Decimated ds coefs factor n active f buf st buf' st' r
  of_slice e did =
      let p = accepted ds coefs factor n active f (length buf) (length st) e in
      let whole =
      passed ds 36 factor n active f (length buf) (length st)
      (record {
        factors = p.factors;
        lanes = p.lanes;
        frames = p.frames;
        counts = p.counts;
        read = refl;
        rows = p.rows;
        cells = p.cells;
      }) in
      record {
        number = did.number ∙ whole ∙ sym e;
        frames = did.frames;
        refused = did.refused;
        lanes = did.lanes;
        lengths = did.lengths;
      }

  -- the promise leaves no cell open: two calls with the same arguments and buffers end alike
  module _ {buf' st' buf'' st'' : List Float} {r r' : Answer} (one : Decimated ds coefs factor n active f buf st buf' st' r)
      (two : Decimated ds coefs factor n active f buf st buf'' st'' r') where
    same_number : r.number ≡ r'.number
    same_number = one.number ∙ sym two.number

    pub same_answer : r ≡ r'
    same_answer =
        let frames : r.frames ≡ r'.frames = one.frames ∙ rw same_number (sym two.frames) in
        λ i. record { number = same_number i; frames = frames i }

    pub same_ends : (buf' ≡ buf'') × (st' ≡ st'')
    unfolding view
    same_ends = go (ℕ_discrete r.number 0)
      where
        go : Dec (r.number ≡ 0) → (buf' ≡ buf'') × (st' ≡ st'')
        go (no ne) =
            let a = one.refused ne in
            let b = two.refused (λ e. ne (same_number ∙ e)) in
            (a.0 ∙ sym b.0, a.1 ∙ sym b.1)
        go (yes e) =
            let p = accepted ds coefs factor n active f (length buf) (length st) (sym one.number ∙ e) in
            let some : 0 < n = (good_lanes n active p.lanes).0 in
            let same : (l : ℕ) → l < n → views floats n buf' st' l ≡ views floats n buf'' st'' l =
            each_unique (one.lanes e) (two.lanes (sym same_number ∙ e)) in (
              same_columns nan n buf' buf'' some (one.lengths.0 ∙ sym two.lengths.0)
                  (λ l h. ap (λ (v : View Float). v.rows) (same l h)),
              same_blocks nan 24 n st' st'' (omega arith) some (one.lengths.1 ∙ sym two.lengths.1)
                  (λ l h. ap (λ (v : View Float). v.cells) (same l h)),
            )
