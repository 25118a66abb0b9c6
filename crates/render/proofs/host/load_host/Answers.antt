-- `load_host` meets its contract.
use mathlib.Core.Path.{sym, subst}
use Prim.Native.Nat.{ℕ, ◌<◌}
use lib.ListN.{length}
use Rattle.limits.proofs.LengthLaws.{span_in}
use Rattle.render.specs.Frames.{host_at}
use Rattle.render.proofs.InputLaws.{row_read, slope_in}
use Rattle.render.proofs.host.load_host.Goals as goal

pub bounds-rows-place : goal.bounds-rows-place
bounds-rows-place c =
    subst (λ (i : ℕ). i < length c.args.rows.inner.now) (sym c.place.ensures) (slope_in c.requires.hosted)

pub returns : goal.returns
unfolding host_at
returns c =
    rw (
      row_read _ _ _ _ _ _ (span_in _ _ c.requires.hosted.spot.row),
      ← c.drive_at.ensures,
      ← c.drive_at-2.ensures,
      ← c.place.ensures,
    )
