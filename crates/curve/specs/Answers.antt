-- What a call about a curve answers: document 01's number and value. Definitions only.
use Rattle.std.specs.Prelude.{List, length, Float}
use Rattle.floats.specs.F32.{0f}
use Rattle.floats.specs.Steps.{when◌then◌else◌}
use Rattle.limits.specs.declared.answers.Value.{Value}
use Rattle.limits.specs.Lengths.{curve_length, shorter}

-- v, unless the table is too short: line 7
unfoldable pub answered : List Float → Float → Value
answered table v = when shorter curve_length (length table) then record { number = 7; value = 0f } else record { number = 0; value = v }
