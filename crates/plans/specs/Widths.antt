-- The table keeps its columns. A cell is as wide as its column or wider, so a text that is as long as its columns together
-- has no number that is wider than its cell. Definitions only.
use Rattle.std.specs.Prelude.{◌≡◌, ℕ, length}
use Rattle.plans.specs.declared.planning.LinePlan.{LinePlan}
use Rattle.plans.specs.Table.{cell, asked_text, sizes_of, sizes_text, counts_text}

pub record InColumns (line : ℕ) (plans : LinePlan) : Type 0 where
  pub number : length (cell 4 line) ≡ 4
  pub asked : length (asked_text plans.numbers) ≡ 37
  pub floats : length (sizes_text (sizes_of plans.block 1)) ≡ 37
  pub bytes : length (sizes_text (sizes_of plans.block 4)) ≡ 37
  pub block : length (counts_text plans.block) ≡ 19
  pub frame : length (counts_text plans.frame) ≡ 19
