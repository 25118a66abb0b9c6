-- The contract of a lane's call leaves nothing open: two calls with the same lane, arguments and buffers end with the same buffers and
-- the same answer; and a range of no frames changes nothing. Assumes nothing.
use mathlib.Core.Path.{◌≡◌, refl, sym, ◌∙◌}
use Prim.Native.Nat.{ℕ}
use native.Mathlib.Decide.{ℕ_discrete}
use Rattle.grid.proofs.EachLaws.{each_id, each_same, each_unique}
use Rattle.block.specs.Call.{Call, lanes_of, inputs}
use Rattle.block.proofs.RefusalLaws.{call_lanes}
use Rattle.block.proofs.NoFrames.{share_still}
use Rattle.block.proofs.Unique.{buffers_same, Asked, ended, as_asked}
use Rattle.lane_run.specs.LaneCall.{lane_refusal_of, LaneMeets}
use Rattle.lane_run.proofs.LaneLaws.{accepted_run}

module _ (c d : Call) (lane : ℕ) (asked : Asked c d) (one : LaneMeets c lane) (did : LaneMeets d lane) where
  two : LaneMeets (ended c d) lane
  two = as_asked c d asked (λ (x : Call). LaneMeets x lane) did

  same_number : lane_refusal_of (ended c d) lane ≡ lane_refusal_of c lane
  unfolding lane_refusal_of
  same_number = refl

  pub lane_after : c.after ≡ d.after
  lane_after = go (ℕ_discrete (lane_refusal_of c lane) 0)
    where
      go : Dec (lane_refusal_of c lane ≡ 0) → c.after ≡ d.after
      go (yes ok) =
          buffers_same (lanes_of c) (call_lanes c (accepted_run c lane ok)) c.after d.after
          (one.sizes ∙ sym two.sizes) (each_unique (one.share ok) (two.share (same_number ∙ ok)))
      go (no bad) = one.refused bad ∙ sym (two.refused (λ e. bad (sym same_number ∙ e)))

  pub lane_answer : c.answer ≡ d.answer
  unfolding lane_refusal_of
  lane_answer j = record { number = (one.number ∙ sym two.number) j; frames = (one.frames ∙ sym two.frames) j }

-- no frames
pub lane_nothing : (c : Call) (lane : ℕ) → LaneMeets c lane → c.range.count ≡ 0 → c.after ≡ c.before
lane_nothing c lane did none = go (ℕ_discrete (lane_refusal_of c lane) 0)
  where
    go : Dec (lane_refusal_of c lane ≡ 0) → c.after ≡ c.before
    go (yes ok) =
        buffers_same (lanes_of c) (call_lanes c (accepted_run c lane ok)) c.after c.before did.sizes
        (each_unique (did.share ok) (each_same each_id (λ l hl lo hi. sym (share_still c.settings c.range (inputs c l) _ none))))
    go (no bad) = did.refused bad
