-- `voice::sum_list` meets its contract.
use Rattle.voice.proofs.SumRunLaws.{list_summed}
use Rattle.voice.proofs.sum_run.sum_list.Goals as goal

pub returns : goal.returns
returns c =
    rw (c.mapped_sum.ensures, c.both.ensures, c.map.ensures, c.map-2.ensures, c.slide_of-slide0.ensures, c.slide_of-slide1.ensures, c.half_width-half.ensures)
    (list_summed _ _ _ _ _ _ _ _ _ _ _ _ _ _ _)
