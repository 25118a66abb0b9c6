-- Decimations that change nothing. Document 01: "Zero frames and zero active lanes are accepted and change nothing." Assumes nothing.
use mathlib.Core.Path.{◌≡◌, refl, sym}
use mathlib.Core.Logic.{◌⊎◌, inl, inr}
use mathlib.Core.List.{List}
use Prim.Native.Nat.{ℕ}
use native.Mathlib.Omega.{arith}
use lib.Ieee.{Float}
use Rattle.grid.specs.Lanes.{Each}
use Rattle.grid.proofs.EachLaws.{each_id, each_none, each_same}
use Rattle.limits.specs.declared.answers.Answer.{Answer}
use Rattle.halfband.specs.declared.design.Designs.{Designs}
use Rattle.halfband.specs.Halfband.{views, cascade, stages_of}
use Rattle.halfband.specs.Floats.{floats, design_of}
use Rattle.halfband.specs.Decimated.{lane_part, Decimated}
use Rattle.halfband.proofs.DecimatedLaws.{same_ends}
use Rattle.halfband.proofs.RangeLaws.{cascade_still}

module _ {ds : Designs} {coefs factor n active f : ℕ} {buf st buf' st' : List Float} {r : Answer}
    (did : Decimated ds coefs factor n active f buf st buf' st' r) where
  -- a call in which no lane's part does anything
  still : Each n 0 active (λ _. lane_part ds (stages_of factor) f) (views floats n buf st) (views floats n buf st) → (buf' ≡ buf) × (st' ≡ st)
  still idle =
      same_ends ds coefs factor n active f buf st did
      (record { number = did.number; frames = did.frames; refused = λ ne. (refl, refl); lanes = λ e. idle; lengths = (refl, refl) })

  pub nothing : (f ≡ 0) ⊎ (active ≡ 0) → (buf' ≡ buf) × (st' ≡ st)
  nothing (inl none) = still (each_same each_id (λ l hl lo hi. sym (rw none (cascade_still floats (design_of ds) (stages_of factor) _))))
  nothing (inr none) = still (each_none (omega arith))

  -- factor 1 has no stage
  pub one_to_one : factor ≡ 1 → (buf' ≡ buf) × (st' ≡ st)
  unfolding cascade stages_of
  one_to_one e = still (rw e each_id)
