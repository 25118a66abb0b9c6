-- What reading a lane's numbers asks for. Definitions only.
use Rattle.std.specs.Prelude.{ℕ, ◌<◌, ◌≤◌}

-- host frame `host` of a block, and a lane of n
pub record Spot (frames n lane host : ℕ) : Type 0 where
  pub inside : lane < n
  pub few : n ≤ 64
  pub block : frames ≤ 4096
  pub row : host < frames
