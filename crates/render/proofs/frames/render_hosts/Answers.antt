-- `render_hosts` meets its contract: what the host frames so far promise is the invariant.
use Prim.Native.Nat.{◌*◌}
use native.Mathlib.Omega.{arith}
use Rattle.render.specs.Lane.{Lent, inputs_in}
use Rattle.render.specs.Slices.{accepted_lists, block_of}
use Rattle.render.specs.Frames.{Frames}
use Rattle.render.proofs.FrameLaws.{hosts_none, hosts_more, hosts_done}
use Rattle.render.proofs.frames.render_hosts.Goals as goal
use Rattle.render.proofs.frames.render_hosts.Goals.{At-loop-k}

abbrev lends : At-loop-k → Lent
lends c = let a = c.args in accepted_lists a.lent

-- the host frames so far, of this block
so_far : (c : At-loop-k)
    → let a = c.args in
    let b = block_of a.part in
    Frames b (inputs_in b.shaper (lends c) a.part.lane) a.part.lane (a.part.range.first * b.shaper.factor) 0 (c.loop-k.k * b.shaper.factor) a.v c.loop-k.state a.work.now c.loop-k.work
so_far c = let b = block_of c.args.part in c.loop-k.invariant.1 b.rate b.designs c.fm_scale-scale.ensures

pub loop-k-init : goal.loop-k-init
loop-k-init c = (omega arith, hosts_none _ _ _ _ _ _ _)

pub loop-k-preserved : goal.loop-k-preserved
loop-k-preserved c =
    (omega (arith, c.loop-k-test.true), hosts_more _ _ _ _ _ c.loop-k.k _ _ _ _ _ _ c.args.part.inside c.loop-k.invariant.1 c.render_host-state.ensures)

pub returns : goal.returns
returns c =
    let a = c.args in
    hosts_done _ _ _ _ _ c.loop-k.k a.part.range.count _ _ _ _ (omega arith) c.loop-k.invariant.1 a.part.rate a.part.designs.now c.fm_scale-scale.ensures
