-- `load_voice` meets its contract.
use lib.Ieee.{nan}
use Rattle.grid.proofs.CellLaws.{col_at}
use Rattle.share.proofs.cells.load_voice.Goals as goal

pub returns : goal.returns
returns c =
    let a = c.args in
    rw (
      c.load_pair.ensures,
      c.load_pair-2.ensures,
      c.place-first.ensures,
      c.place.ensures,
      col_at nan _ _ a.fm.now 0,
      col_at nan _ _ a.fm.now 1,
      col_at nan _ _ a.last.now 0,
    )
