-- `stage::load` meets its contract.
use mathlib.Core.Path.{◌≡◌, ◌∙◌, sym}
use Prim.Native.Nat.{◌*◌}
use native.Mathlib.Omega.{arith}
use lib.ListN.{length, length-append, length-take, length-drop, get_or-append}
use lib.Ieee.{Float}
use Rattle.grid.proofs.CellLaws.{blk_at}
use Rattle.halfband.specs.Promises.{cells_of}
use Rattle.halfband.proofs.LocalLaws.{filled_more}
use Rattle.halfband.proofs.stage.load.Goals as goal

pub loop-i-preserved : goal.loop-i-preserved
loop-i-preserved c = filled_more _ _ _ _ (omega arith) (rw c.place.ensures (sym (blk_at _ 24 _ _ _ _ _ (omega (arith, length-take {A = Float}))))) c.loop-i.invariant

pub returns : goal.returns
unfolding cells_of
returns c =
    let all : length c.loop-i.cell-items ≡ 2 * c.args.count = c.loop-i.auto.cell-items ∙ omega (arith, length-take {A = Float}) in
    record {
      size = simp (length-append, length-drop) (omega arith);
      cells = λ k h. get_or-append c.loop-i.cell-items _ _ k (omega arith) ∙ c.loop-i.invariant k (omega arith);
    }
