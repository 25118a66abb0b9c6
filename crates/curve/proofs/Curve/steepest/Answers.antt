-- `Curve::steepest` meets its contract. The loop's invariant: the fold over the pairs passed.
use Rattle.std.proofs.Common.{rules}
use native.Mathlib.Omega.{arith}
use Rattle.std.proofs.lemmas.Iterator.{window_more}
use Rattle.curve.specs.Curve.{steepest_of}
use Rattle.curve.proofs.Pairs.{read, start, more, all_passed}
use Rattle.curve.proofs.Curve.steepest.Goals as goal

pub loop-pair-init : goal.loop-pair-init
loop-pair-init c = (search rules, start _ _ c.args.self.whole (search rules))

pub loop-pair-preserved : goal.loop-pair-preserved
loop-pair-preserved c =
    let p = c.loop-pair.invariant in
    let h = window_more (read c.args.self.values.now) c.loop-pair.pair-iterator c.next.new.self _ _ c.in-Some.is c.next.ensures.steps (search rules) p.1.most p.1.there in
    (search rules, rw c.max-steepest.ensures (more _ _ _ _ _ _ _ c.args.self.whole p.0 p.1 h c.abs.ensures))

pub returns : goal.returns
unfolding steepest_of
returns c =
    let p = c.loop-pair.invariant in
    let left = c.in-None.ensures.steps in
    rw (← all_passed _ _ _ c.args.self.whole p.1 (omega (arith, left.1.0, p.0))) c.clamp.ensures
