-- `frame_at` meets its contract.
use Rattle.floats.specs.Steps.{step}
use Rattle.render.specs.Frames.{frame_at}
use Rattle.render.proofs.InputLaws.{row_read}
use Rattle.render.proofs.frame.frame_at.Goals as goal

pub returns : goal.returns
unfolding frame_at
returns c =
    let p = c.requires.framed in
    rw (
      step,
      step,
      ← c.heard.ensures,
      ← c.heard-2.ensures,
      row_read _ _ _ _ _ _ p.inside,
      row_read _ _ _ _ _ _ p.inside,
      ← c.place-rendered.ensures,
    ) c.frame_of.ensures
