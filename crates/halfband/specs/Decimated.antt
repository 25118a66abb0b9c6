-- What a decimation promises. Definitions only.
use Rattle.std.specs.Prelude.{◌≡◌, cond, List, ℕ, eqb, length, Float}
use Rattle.grid.specs.Lanes.{Each}
use Rattle.limits.specs.declared.answers.Answer.{Answer}
use Rattle.halfband.specs.declared.design.Designs.{Designs}
use Rattle.halfband.specs.Halfband.{View, views, cascade, stages_of}
use Rattle.halfband.specs.Floats.{floats, design_of}
use Rattle.halfband.specs.Refusal.{refusal}

-- one lane's share of an accepted call
abbrev pub lane_part : Designs → ℕ → ℕ → View Float → View Float
lane_part ds s f = cascade floats (design_of ds) s f

-- a call's number: `coefs` is how many coefficients it is lent
abbrev pub call_number : Designs → ℕ → ℕ → ℕ → ℕ → ℕ → ℕ → ℕ → ℕ
call_number ds coefs factor n active frames buffer state =
    refusal factor n active frames (design_of ds 0).count (design_of ds 1).count (design_of ds 2).count coefs buffer state

-- f output frames of the first `active` of n lanes, with the buffers before and after. `Each` is about every row of the buffer, those
-- past the result too, and every cell of the state, and leaves the lanes from `active` on as they were
pub record Decimated (ds : Designs) (coefs factor n active f : ℕ) (buf st buf' st' : List Float) (r : Answer) : Type 0 where
  pub number : r.number ≡ call_number ds coefs factor n active f (length buf) (length st)
  pub frames : r.frames ≡ cond (eqb r.number 0) f 0
  pub refused : (r.number ≡ 0 → ⊥) → (buf' ≡ buf) × (st' ≡ st)
  pub lanes : r.number ≡ 0
      → Each n 0 active (λ _. lane_part ds (stages_of factor) f) (views floats n buf st) (views floats n buf' st')
  pub lengths : (length buf' ≡ length buf) × (length st' ≡ length st)
