-- The cells of a lent buffer: rows of n numbers, one for each lane. A lane's number in a row lies at row × n + lane.
-- d is what a read past the buffer's end gives: it makes a column a function of every row. Definitions only.
use Rattle.std.specs.Prelude.{List, ℕ, ◌+◌, ◌*◌, get_or}
use Rattle.grid.specs.Functions.{table, blocks}

module _ {A : Type 0} (d : A) where
  -- the column of lane l, of n lanes: its number in row r
  unfoldable pub col : ℕ → ℕ → List A → ℕ → A
  col n l xs r = get_or xs (r * n + l) d

  -- every lane's column
  abbrev pub columns : ℕ → List A → ℕ → ℕ → A
  columns n xs l = col n l xs

  -- the column of lane l in the first k rows, as a list
  unfoldable pub column : ℕ → ℕ → ℕ → List A → List A
  column n l k xs = table k (col n l xs)

  -- the column of lane l in blocks of h rows: cell i of block b lies in row h × b + i
  unfoldable pub blk : ℕ → ℕ → ℕ → List A → ℕ → ℕ → A
  blk h n l xs = blocks d h (col n l xs)
