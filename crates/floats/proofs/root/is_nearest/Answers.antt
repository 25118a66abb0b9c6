-- The test is the number's two bounds. Assumes nothing.
use Rattle.std.proofs.Common.{arith}
use Rattle.std.proofs.lemmas.Bool.{leb-true}
use Rattle.floats.proofs.RootPatterns.{nearest_root}
use Rattle.floats.proofs.root.is_nearest.Goals as goal

pub returns-then-r-n : goal.returns-then-r-n
returns-then-r-n c = λ h. nearest_root c.args.n c.args.r (omega (arith, c.requires.fact_1)) (omega (arith, c.requires.fact_1)) c.if-r-n.true (leb-true _ _ h)
