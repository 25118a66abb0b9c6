-- `floats::power_table` meets its contract.
use mathlib.Core.Path.{refl}
use Rattle.floats.specs.Exp2.{entries, entry_of}
use Rattle.floats.proofs.Entries.{rule}
use Rattle.floats.proofs.power.power_table.Goals as goal

pub returns : goal.returns
unfolding entries entry_of
returns c = record {
  value = refl;
  rule = λ k h. rule k h;
}
