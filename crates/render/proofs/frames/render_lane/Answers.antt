-- `render_lane` meets its contract, with a slot in a stage and without.
use mathlib.Core.Path.{sym, ◌∙◌}
use borrow.Author.Rules.{rules}
use Rattle.render.specs.Lane.{Lent}
use Rattle.render.specs.Slices.{accepted_lists}
use Rattle.render.proofs.PlainLaws.{neither, unshaped, plain_frames}
use Rattle.render.proofs.frames.render_lane.Goals as goal
use Rattle.render.proofs.frames.render_lane.Goals.{Start}

abbrev lends : Start → Lent
lends c = let a = c.args in accepted_lists a.lent

pub read_lane-requires : goal.read_lane-requires
read_lane-requires c =
    let p = c.requires in
    unshaped c.args.part.limits (lends (goal.at.read_lane-requires c).Start) _ c.args.part.inside p.readable _ p.writable

pub returns-then-is_plain : goal.returns-then-is_plain
returns-then-is_plain c =
    let p = c.requires in
    plain_frames c.args.part.limits (lends (goal.at.returns-then-is_plain c).Start) _ c.args.part.inside p.readable _ _ _
    (neither _ _ (sym c.is_plain.ensures ∙ c.if-is_plain.true)) (search rules) c.read_lane.ensures
