-- `stage::frame` meets its contract.
use native.Mathlib.Omega.{arith}
use lib.ListN.{length-take}
use lib.Seq.{get_or-take}
use lib.Ieee.{Float}
use Rattle.halfband.specs.Floats.{sections}
use Rattle.halfband.proofs.ChainLaws.{linked_none, linked_more, framed}
use Rattle.halfband.proofs.stage.frame.Goals as goal

pub loop-i-init : goal.loop-i-init
loop-i-init g c = linked_none _ _ _ c.told-cells

pub loop-i-preserved : goal.loop-i-preserved
loop-i-preserved g c = linked_more _ _ _ _ _ _ _ _ c.loop-i.invariant (rw (get_or-take g.row.COUNT c.args.coefs.now c.loop-i.i _ (omega (arith, length-take {A = Float}))) at c.section.ensures)

pub returns : goal.returns
returns g c = framed (sections c.args.coefs.now g.row.COUNT) _ _ _ _ _ _ (omega (arith, length-take {A = Float})) c.loop-i.invariant
