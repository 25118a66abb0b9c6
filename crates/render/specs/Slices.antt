-- What a block run is lent: the slices by their lists, and a lane's block. Definitions only.
use Rattle.std.specs.Prelude.{List, Float}
use Rattle.controls.specs.Slices.{control_lists}
use Rattle.render.specs.declared.lent.Rows.{Rows}
use Rattle.render.specs.declared.lent.LentSlices.{LentSlices}
use Rattle.render.specs.declared.lent.AcceptedSlices.{AcceptedSlices}
use Rattle.render.specs.declared.state.BlockSettings.{BlockSettings}
use Rattle.render.specs.declared.state.LaneRange.{LaneRange}
use Rattle.render.specs.Lane.{Lent}

-- rows beside a curve and a cycle
abbrev pub rows_with : Rows → List Float → List Float → Lent
rows_with r curve cycle =
    record {
      controls = control_lists r.controls;
      curve = curve;
      cycle = cycle;
      words = r.words.now;
      steps = r.steps.now;
      inner = r.inner.now;
    }

abbrev pub accepted_lists : AcceptedSlices → Lent
accepted_lists l = rows_with l.rows l.curve.values.now l.cycle.samples.now

abbrev pub lent_lists : LentSlices → Lent
lent_lists l = rows_with l.rows l.curve.now l.cycle.now

-- the block of a lane's share
abbrev pub block_of : LaneRange → BlockSettings
block_of p = record { shaper = p.shaper; rate = p.rate; designs = p.designs.now }
