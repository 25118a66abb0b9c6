-- What the steps of `prepare` and of `stretch` ask for. Definitions only.
use Rattle.std.specs.Prelude.{ℕ, ◌+◌, ◌-◌, ◌*◌, ◌<◌, ◌≤◌, max}
use Rattle.limits.specs.declared.lengths.ControlLengths.{ControlLengths}
use Rattle.limits.specs.Lengths.{sub_block, ControlsHeld}
use Rattle.spans.specs.Asked.{span_of}

-- `rows` sub-blocks of every lane: what is read and what is written is there
pub record Takes (frames rows n : ℕ) (l : ControlLengths) (inner stretch add : ℕ) : Type 0 where
  pub few : n ≤ 64
  pub last : rows * sub_block < frames + sub_block
  pub controls : ControlsHeld frames n l
  pub inners : rows * n ≤ inner
  pub stretches : rows * n ≤ stretch
  pub adds : rows * n ≤ add

-- rendered frames of a range: the sub-blocks that they fall in are rows of a lane's spans. 4,096 host frames at factor 8 are 32,768 rendered
pub record Asks (factor first rows n lane from asked stretch add : ℕ) : Type 0 where
  pub inside : lane < n
  pub few : n ≤ 64
  pub block : rows ≤ 4096
  pub rendered : 1 ≤ factor
  pub range : first ≤ 4096
  pub frames : from + max asked 1 ≤ 32768
  pub order : span_of factor first from ≤ span_of factor first (from + max asked 1 - 1)
  pub last : span_of factor first (from + max asked 1 - 1) < rows
  pub stretches : rows * n ≤ stretch
  pub adds : rows * n ≤ add
