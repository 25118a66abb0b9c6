-- What a plan says of the runs of such a block. Definitions only.
use Rattle.std.specs.Prelude.{◌≡◌, false, ℕ}
use Rattle.limits.specs.Lines.{bad_modes, bad_rate}
use Rattle.halfband.specs.Halfband.{stages_of}
use Rattle.halfband.specs.Floats.{design_of}
use Rattle.block.specs.declared.refusal.CallNumbers.{CallNumbers}
use Rattle.block.specs.declared.refusal.ReadLengths.{ReadLengths}
use Rattle.block.specs.declared.refusal.WriteLengths.{WriteLengths}
use Rattle.block.specs.Refusal.{block_refusal}
use Rattle.block.specs.Call.{Call}
use Rattle.plan.specs.declared.needs.BlockNumbers.{BlockNumbers}
use Rattle.plan.specs.declared.needs.Plan.{Plan}
use Rattle.plan.specs.Sums.{sum}
use Rattle.plan.specs.Counting.{cascade_steps}
use Rattle.plan.specs.Plan.{plan_refusal, nothing}
use Rattle.plan.specs.OneRange.{OneRange, Makes}
use Rattle.plan.specs.Reads.{Most}
use Rattle.plan.specs.Sizes.{Least}

-- the section steps of a run: its active lanes', each by the designs, stages and frames that `decimated` hands to
-- `cascade`
unfoldable pub block_steps : Call → ℕ
block_steps c =
    sum c.active
    (λ lane. cascade_steps (λ j. (design_of c.settings.designs j).count) (stages_of c.settings.shaper.factor) c.range.count)

-- an accepted plan
pub record Planned (b : BlockNumbers) (p : Plan) : Type 0 where
  pub sizes : Least b p
  pub reads : Most b p.reads
  pub steps : (c : Call) → Makes b c → block_steps c ≡ p.steps

-- a refused one: its number and zeros, and a run of these numbers with good modes and a good rate is turned down with
-- this number
pub record TurnedDown (b : BlockNumbers) (p : Plan) : Type 0 where
  pub zeros : p ≡ nothing (plan_refusal b)
  pub alike : (call : CallNumbers) (reads : ReadLengths) (writes : WriteLengths)
      → OneRange b call → bad_modes call.mode0 call.mode1 ≡ false → bad_rate call.rate ≡ false → block_refusal call reads writes ≡ p.number
