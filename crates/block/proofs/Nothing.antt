-- A block run that changes nothing. Document 01: "Zero frames and zero active lanes are accepted and change nothing." Assumes nothing.
use mathlib.Core.Path.{◌≡◌, sym}
use mathlib.Core.Logic.{◌⊎◌, inl, inr}
use native.Mathlib.Decide.{ℕ_discrete}
use native.Mathlib.Omega.{arith}
use Rattle.grid.specs.Lanes.{Each}
use Rattle.grid.proofs.EachLaws.{each_id, each_none, each_same, each_unique}
use Rattle.share.specs.Share.{columns_of}
use Rattle.block.proofs.NoFrames.{share_still}
use Rattle.block.specs.Call.{Call, Meets, refusal_of, lanes_of, inputs, share_of}
use Rattle.block.proofs.RefusalLaws.{call_lanes}
use Rattle.block.proofs.Unique.{buffers_same}

module _ (c : Call) (did : Meets c) where
  -- a call in which no lane's share does anything
  still : Each (lanes_of c) 0 c.active (share_of c) (columns_of (lanes_of c) c.before) (columns_of (lanes_of c) c.before) → c.after ≡ c.before
  still idle = go (ℕ_discrete (refusal_of c) 0)
    where
      go : Dec (refusal_of c ≡ 0) → c.after ≡ c.before
      go (yes ok) =
          buffers_same (lanes_of c) (call_lanes c ok) c.after c.before did.sizes (each_unique (did.lanes ok) idle)
      go (no bad) = did.refused bad

  pub nothing : (c.range.count ≡ 0) ⊎ (c.active ≡ 0) → c.after ≡ c.before
  nothing (inl none) = still (each_same each_id (λ l hl lo hi. sym (share_still c.settings c.range (inputs c l) _ none)))
  nothing (inr none) = still (each_none (omega arith))
