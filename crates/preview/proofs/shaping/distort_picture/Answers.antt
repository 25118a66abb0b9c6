-- `shaping::distort_picture` meets its contract.
use mathlib.Core.Path.{◌∙◌}
use native.Mathlib.Omega.{arith}
use Rattle.grid.proofs.TableLaws.{same_table}
use Rattle.wave.specs.Curve.{curves_of}
use Rattle.wave.proofs.Distorting.{distort_rectified, distort_curved}
use Rattle.preview.specs.Shaping.{rectified_of, distorted_of}
use Rattle.preview.proofs.shaping.distort_picture.Goals as goal

pub returns-in-28 : goal.returns-in-28
unfolding rectified_of distorted_of
returns-in-28 c =
    c.rectify_picture.ensures ∙ same_table _ _ _ (λ i l. distort_rectified _ _ _ _ c.in-28.is)

pub returns-in_default : goal.returns-in_default
unfolding curves_of distorted_of
returns-in_default c =
    (rw c.drive.ensures at c.curve_all.ensures) ∙ same_table _ _ _ (λ i l. distort_curved _ _ _ _ (omega arith))
