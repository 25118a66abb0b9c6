-- `frame_of` meets its contract: without a map there is one read.
use mathlib.Core.Bool.{◌||◌}
use mathlib.Core.Path.{sym, ap₂, ◌∙◌}
use Rattle.floats.specs.Steps.{given}
use Rattle.limits.proofs.LineLaws.{or_false}
use Rattle.voice.proofs.SumRunLaws.{none_summed}
use Rattle.render.specs.Frames.{frame_of}
use Rattle.render.proofs.frame.frame_of.Goals as goal

pub returns : goal.returns
unfolding frame_of
returns c =
    let a = c.args in
    let none = (or_false _ (c.has_state.result || c.has_state-2.result) c.if-mapped-stated.false).0 in
    let one-read = none_summed a.cycle.samples.now a.s.numbers.sin a.s.numbers.atan a.curve.values.now a.slots.slot0.slot a.slots.slot1.slot a.s.factor a.scale a.slots.slot0.control a.slots.slot1.control a.inner a.word a.step a.v.fm0 a.v.fm1
    (ap₂ ◌||◌ (sym c.in_phase.ensures) (sym c.in_phase-2.ensures) ∙ none) in
    rw (← c.requires.own0, ← c.requires.own1, given one-read) (c.level_frame.ensures.stepped a.s.numbers.sin a.step)
