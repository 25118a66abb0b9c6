-- What the steps of `sqrt` and of `exp2` promise each other. Definitions only.
use Rattle.std.specs.Prelude.{ℕ, ◌+◌, ◌-◌, ◌*◌, ◌/◌, ◌%◌, ◌^◌, ◌≤◌, ◌<◌, cond, leb}
use Rattle.floats.specs.Pattern.{significand_of, exponent_of}
use Rattle.floats.specs.Sqrt.{BySquares}

-- r is the whole number nearest the root of n: the root lies between r - 1/2 and r + 1/2, whose squares are r * r - r + 1/4 and r * r + r + 1/4
pub record NearestRoot (n r : ℕ) : Type 0 where
  pub low : 2 ^ 23 ≤ r
  pub high : r < 2 ^ 24
  pub above : r * r < n + r
  pub under : n ≤ r * r + r

-- r is the pattern of the root of n smallest values: its significand and its exponent are what the squares ask. It is finite, and 2 ^ -63 at least.
-- 8388608 is 2 ^ 23, and 2139095040 is +infinity's pattern
pub record RootPattern (n r : ℕ) : Type 0 where
  pub least : 64 * 8388608 ≤ r
  pub most : r < 2139095040
  pub squares : BySquares (n * 2 ^ 149) (8388608 + r % 8388608) (r / 8388608 - 1)

-- `scaled` of the f32 with the pattern b: its size is n * 2 ^ -149, and times 65,536 that is n / 2 ^ 133
unfoldable pub steps_of : ℕ → ℕ
steps_of b =
    let n = significand_of b * 2 ^ exponent_of b in
    cond (leb 2147483648 b) ((8388608 * 2 ^ 133 - n) / 2 ^ 133) ((8388608 * 2 ^ 133 + n) / 2 ^ 133)
