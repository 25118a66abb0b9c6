-- `stage::store` meets its contract.
use Prim.Native.Nat.{◌*◌}
use native.Mathlib.Omega.{arith}
use lib.ListN.{length-take}
use lib.Seq.{get_or-take}
use lib.Ieee.{Float}
use Rattle.halfband.proofs.LocalLaws.{cell_in, stored_none, stored_more}
use Rattle.halfband.proofs.stage.store.Goals as goal

pub loop-i-init : goal.loop-i-init
loop-i-init c = stored_none _ _ _ _ _

pub loop-i-preserved : goal.loop-i-preserved
loop-i-preserved c =
    rw (c.place.ensures, get_or-take (2 * c.args.count) c.args.cells.now c.loop-i.i _ (omega (arith, length-take {A = Float})))
    (stored_more _ _ _ _ _ _ _ c.args.lane.inside (omega (arith, length-take {A = Float}))
    (rw c.loop-i.auto.state (cell_in _ _ c.loop-i.i _ _ c.requires.room (omega (arith, length-take {A = Float})))) c.loop-i.invariant)
