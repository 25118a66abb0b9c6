-- `render_host` meets its contract: its promise, at the counter, is the invariant.
use mathlib.Core.Path.{refl}
use native.Mathlib.Omega.{arith}
use lib.ListN.{length-set}
use Rattle.render.specs.Lane.{Lent}
use Rattle.render.specs.Slices.{accepted_lists}
use Rattle.render.proofs.InputLaws.{room_in, framed}
use Rattle.render.proofs.FrameLaws.{powered, ran_none, ran_more, ran_done}
use Rattle.render.proofs.host.render_host.Goals as goal
use Rattle.render.proofs.host.render_host.Goals.{Start}

abbrev lends : Start → Lent
lends c = let a = c.args in accepted_lists a.lent

pub loop-sub-init : goal.loop-sub-init
loop-sub-init c = (omega arith, refl, refl, ran_none _ _ (lends (goal.at.loop-sub-init c).Start) _ _ _ _ _)

pub frame_at-out-requires : goal.frame_at-out-requires
frame_at-out-requires c =
    let l = lends (goal.at.frame_at-out-requires c).Start in
    let p = c.requires in record {
      powered = powered _ l _ _ _ c.load_host-h.ensures;
      framed = framed p.room c.loop-sub.sub (omega arith) {l = l} p.readable;
    }

pub loop-sub-preserved : goal.loop-sub-preserved
loop-sub-preserved c =
    let l = lends (goal.at.loop-sub-preserved c).Start in
    let room = c.requires.room in (
      omega arith,
      c.loop-sub.invariant.1,
      rw length-set c.loop-sub.invariant.2,
      rw c.place.ensures
          (ran_more _ _ l _ _ _ c.frame_at-out.result room.spot.inside (omega arith)
          (rw c.loop-sub.invariant.2 (room_in room c.loop-sub.sub (omega arith))) c.load_host-h.ensures c.frame_at-out.ensures c.loop-sub.invariant.3),
    )

pub returns : goal.returns
returns c =
    ran_done _ _ (lends (goal.at.returns c).Start) _ _ _ c.loop-sub.sub _ _ _ _ (omega arith) c.loop-sub.invariant.3
