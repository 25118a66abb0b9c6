-- What a line's numbers plan. Definitions only.
use Rattle.std.specs.Prelude.{◌≡◌, List, ℕ, get_or, Result, Ok, Err}
use Rattle.limits.specs.Refusals.{line_of}
use Rattle.plan.specs.declared.needs.BlockNumbers.{BlockNumbers}
use Rattle.plan.specs.Plan.{plan_refusal, plan_of, one_frame}
use Rattle.plans.specs.declared.planning.LinePlan.{LinePlan}
use Rattle.plans.specs.declared.planning.NoPlan.{NoPlan}
use Rattle.plans.specs.declared.planning.NoPlan.TheVariants.{NotSevenNumbers, TurnedDown}

-- a line's seven numbers in their order
unfoldable pub in_order : List ℕ → BlockNumbers
in_order v =
    record {
      lanes = get_or v 0 0;
      active = get_or v 1 0;
      factor = get_or v 2 0;
      frames = get_or v 3 0;
      count0 = get_or v 4 0;
      count1 = get_or v 5 0;
      count2 = get_or v 6 0;
    }

-- the block's plan, and that of one of its host frames
unfoldable pub plans_of : BlockNumbers → LinePlan
plans_of b = record { numbers = b; block = plan_of b; frame = plan_of (one_frame b) }

-- the plans of these numbers, or the refusal by which they are turned down
unfoldable pub IsPlanOf : BlockNumbers → Result LinePlan NoPlan → Type 0
IsPlanOf b (Ok plans) = (plan_refusal b ≡ 0) × (plans ≡ plans_of b)
IsPlanOf b (Err NotSevenNumbers) = ⊥
IsPlanOf b (Err (TurnedDown refusal)) = line_of refusal ≡ plan_refusal b
