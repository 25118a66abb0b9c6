-- `lane::reads_at` meets its contract: its steps are the definition's.
use mathlib.Core.Path.{sym, subst}
use Prim.Native.Nat.{ℕ, ◌<◌}
use lib.ListN.{length}
use Rattle.floats.specs.Steps.{given}
use Rattle.limits.proofs.LengthLaws.{span_in}
use Rattle.controls.proofs.LentLaws.{row_read}
use Rattle.shaper.specs.Lane.{control0_at, control1_at, reads_at}
use Rattle.shaper.proofs.TakenLaws.{span_held}
use Rattle.shaper.proofs.lane.reads_at.Goals as goal

pub bounds-inner-span : goal.bounds-inner-span
bounds-inner-span c =
    subst (λ (i : ℕ). i < length c.args.inner.now) (sym c.place-span.ensures) (span_held c.requires)

pub returns-clause-value : goal.returns-clause-value
unfolding reads_at control0_at control1_at
returns-clause-value c =
    rw (
      given c.fm_scale-scale.ensures,
      given c.control-control0.ensures,
      given c.control-control1.ensures,
      row_read _ _ _ _ _ (span_in _ _ c.requires.driven.spot.row),
      ← c.place-span.ensures,
      ← c.new.ensures.slot,
      ← c.new.ensures.control,
      ← c.new-2.ensures.slot,
      ← c.new-2.ensures.control,
    ) c.reads_of.ensures.value
