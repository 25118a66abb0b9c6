-- The decimator of halfband.rs on one lane, over any kind of number: a cascade of two-to-one stages, each a chain of sections on
-- two paths. A lane's state is a block of 24 cells for each stage, counted from the output: cell 2i is section i's last input (the
-- Rust's x[i]) and cell 2i + 1 its last output (y[i]). Definitions only.
use Rattle.std.specs.Prelude.{cond, List, [], ◌∷◌, ℕ, zero, suc, ◌+◌, ◌*◌, ◌^◌, ◌%◌, eqb, get_or, set}
use Rattle.grid.specs.Functions.{upd, upto}
use Rattle.grid.specs.Cells.{col, blk}

-- what the decimator asks of its numbers
pub record Kind (A : Type 0) : Type 0 where
  -- what a read past a list's end gives
  pub none : A
  -- a cell of the state, as a section takes it
  pub load : A → A
  -- a section's output, from its coefficient, x, y and input
  pub section : A → A → A → A → A
  -- the output sample, from what paths 0 and 1 end with
  pub mix : A → A → A

-- a stage's design
pub record Sections (A : Type 0) : Type 0 where
  pub coefs : List A
  pub count : ℕ

-- a stage's cells, and what its two paths hold: path 0 for the sections of even number, path 1 for those of odd
pub record Chain (A : Type 0) : Type 0 where
  pub cells : ℕ → A
  pub paths : List A

-- a lane: its number in each row of the buffer, and in each cell of each block of the state
pub record View (A : Type 0) : Type 0 where
  pub rows : ℕ → A
  pub cells : ℕ → ℕ → A

-- the stages of a factor: how many times 2 goes into it
unfoldable pub stages_of : ℕ → ℕ
stages_of factor = cond (eqb factor 2) 1 (cond (eqb factor 4) 2 (cond (eqb factor 8) 3 0))

module _ {A : Type 0} (K : Kind A) where
  -- what section i is given: paths[i % 2]
  unfoldable pub input : ℕ → Chain A → A
  input i v = get_or v.paths (i % 2) K.none

  -- and what it gives: (input - y[i]) * coefs[i] + x[i]
  unfoldable pub output : List A → ℕ → Chain A → A
  output coefs i v =
      K.section (get_or coefs i K.none) (K.load (v.cells (2 * i))) (K.load (v.cells (2 * i + 1))) (input i v)

  -- x[i] = input; y[i] = output; paths[i % 2] = output
  unfoldable pub step : List A → ℕ → Chain A → Chain A
  step coefs i v =
      record {
        cells = upd (upd v.cells (2 * i) (input i v)) (2 * i + 1) (output coefs i v);
        paths = set v.paths (i % 2) (output coefs i v);
      }

  -- the first i sections
  unfoldable pub chain : List A → ℕ → Chain A → Chain A
  chain coefs zero v = v
  chain coefs (suc i) v = step coefs i (chain coefs i v)

  -- one output frame: paths = [late, early]
  unfoldable pub frame : Sections A → (ℕ → A) → A → A → Chain A
  frame D z early late = chain D.coefs D.count (record { cells = z; paths = late ∷ early ∷ [] })

  -- its sample: (paths[0] + paths[1]) * 0.5
  unfoldable pub mixed : Chain A → A
  mixed v = K.mix (get_or v.paths 0 K.none) (get_or v.paths 1 K.none)

  -- a stage's cells z after k output frames of the samples s
  unfoldable pub after : Sections A → (ℕ → A) → (ℕ → A) → ℕ → ℕ → A
  after D z s zero = z
  after D z s (suc k) = (frame D (after D z s k) (s (2 * k)) (s (2 * k + 1))).cells

  -- and its output frame k
  unfoldable pub out : Sections A → (ℕ → A) → (ℕ → A) → ℕ → A
  out D z s k = mixed (frame D (after D z s k) (s (2 * k)) (s (2 * k + 1)))

  -- a stage in place, with block b of the state: its f output frames take the first f rows, and the rows past them stay
  unfoldable pub stage : Sections A → ℕ → ℕ → View A → View A
  stage D b f v =
      record {
        rows = upto f (out D (v.cells b) v.rows) v.rows;
        cells = upd v.cells b (after D (v.cells b) v.rows f);
      }

  -- s stages that end in f frames. The first to run is s - 1 stages before the last, and so are its design and its block
  unfoldable pub cascade : (ℕ → Sections A) → ℕ → ℕ → View A → View A
  cascade Ds zero f v = v
  cascade Ds (suc s) f v = cascade Ds s f (stage (Ds s) s (f * 2 ^ s) v)

  -- ---- lent buffers

  -- lane l of n, in a buffer and a state
  unfoldable pub view : ℕ → ℕ → List A → List A → View A
  view n l buf st = record { rows = col K.none n l buf; cells = blk K.none 24 n l st }

  -- every lane's view
  abbrev pub views : ℕ → List A → List A → ℕ → View A
  views n buf st l = view n l buf st
