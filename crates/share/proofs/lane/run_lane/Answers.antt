-- `run_lane` meets its contract: its calls are the share's parts.
use mathlib.Core.Path.{◌∙◌}
use Rattle.render.specs.Lane.{Lent}
use Rattle.render.specs.Slices.{lent_lists}
use Rattle.share.specs.Share.{Buffers, buffers}
use Rattle.share.proofs.ShareLaws.{rows_copied, shared}
use Rattle.share.proofs.lane.run_lane.Goals as goal
use Rattle.share.proofs.lane.run_lane.Goals.{Start}

abbrev lends : Start → Lent
lends c = lent_lists c.args.lent.now

abbrev had : Start → Buffers
had c = let a = c.args in buffers a.output.now a.work.now a.pairs.now a.fm.now a.last.now a.dec.now

pub copy_lane-requires : goal.copy_lane-requires
copy_lane-requires c =
    let p = c.requires in
    rows_copied {w = had (goal.at.copy_lane-requires c).Start} c.args.part.limits p.writable _
    (c.decimate_lane.auto.buffer ∙ c.render_lane-end.ensures.size)

pub returns : goal.returns
returns c =
    shared _ _ (lends (goal.at.returns c).Start) _ _ _ _ _ _ _ _ _ _ _ _ _ _ _ _ _ c.args.part.inside c.load_voice-v.ensures
    c.render_lane-end.ensures c.store_voice.ensures c.stages_of.ensures c.decimate_lane.ensures c.copy_lane.ensures
    (record {
      output = c.copy_lane.auto.output;
      work = c.decimate_lane.auto.buffer ∙ c.render_lane-end.ensures.size;
      pairs = c.store_voice.auto.pairs;
      fm = c.store_voice.auto.fm;
      last = c.store_voice.auto.last;
      dec = c.decimate_lane.auto.state;
    })
