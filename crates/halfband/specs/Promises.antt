-- What the steps of the decimator ask of each other and promise each other. Definitions only.
use Rattle.std.specs.Prelude.{◌≡◌, List, ℕ, ◌+◌, ◌*◌, ◌^◌, ◌≤◌, ◌<◌, length, get_or, Float}
use Rattle.std.specs.Float.{nan}
use Rattle.grid.specs.Functions.{upd, upto}
use Rattle.grid.specs.Cells.{col, columns, blk}
use Rattle.grid.specs.Lanes.{Each}
use Rattle.limits.specs.Lengths.{state_length}
use Rattle.halfband.specs.declared.design.Designs.{Designs}
use Rattle.halfband.specs.Halfband.{Sections, frame, mixed, after, out}
use Rattle.halfband.specs.Floats.{floats, design_of}

-- ---- a stage's cells in a local array of 24

unfoldable pub cells_of : List Float → ℕ → Float
cells_of z i = get_or z i nan

-- section i on one sample
pub record Stepped (c : Float) (i : ℕ) (z z' : List Float) (input r : Float) : Type 0 where
  pub size : length z' ≡ 24
  pub sample : r ≡ floats.section c (cells_of z (2 * i)) (cells_of z (2 * i + 1)) input
  pub cells : cells_of z' ≡ upd (upd (cells_of z) (2 * i) input) (2 * i + 1) r

-- a pair of samples through all sections
pub record Framed (D : Sections Float) (z z' : List Float) (early late r : Float) : Type 0 where
  pub size : length z' ≡ 24
  pub sample : r ≡ mixed floats (frame floats D (cells_of z) early late)
  pub cells : cells_of z' ≡ (frame floats D (cells_of z) early late).cells

-- the first k output frames of lane l of n
pub record Run (D : Sections Float) (n l k : ℕ) (buf z buf' z' : List Float) : Type 0 where
  pub size : length buf' ≡ length buf
  pub local : length z' ≡ 24
  pub lanes : Each n l (l + 1) (λ _ f. upto k (out floats D (cells_of z) f) f) (columns nan n buf) (columns nan n buf')
  pub cells : cells_of z' ≡ after floats D (cells_of z) (col nan n l buf) k

-- ---- lent buffers

-- every lane's blocks of the state
abbrev pub blocks_of : ℕ → List Float → ℕ → ℕ → ℕ → Float
blocks_of n st l = blk nan 24 n l st

-- block b of the state of lane l of n is there
pub record Room (size b n l : ℕ) : Type 0 where
  pub low : b < 3
  pub few : n ≤ 64
  pub lane : l < n
  pub held : state_length n ≤ size

-- the first k cells of the block are in the array
pub record Loaded (st : List Float) (b n l k : ℕ) (z : List Float) : Type 0 where
  pub size : length z ≡ 24
  pub cells : (i : ℕ) → i < k → cells_of z i ≡ blk nan 24 n l st b i

-- and in the block again
pub record Stored (b n l k : ℕ) (z st st' : List Float) : Type 0 where
  pub size : length st' ≡ length st
  pub lanes : Each n l (l + 1) (λ _ v. upd v b (upto k (cells_of z) (v b))) (blocks_of n st) (blocks_of n st')

-- the rows of f output frames of a stage are there: 16,384 at most, of 4,096 host frames at factor 8
pub record Rows (size f n : ℕ) : Type 0 where
  pub few : f ≤ 16384
  pub held : 2 * f * n ≤ size

-- a call that is taken, of s stages
pub record Taken (ds : Designs) (s f n buffer state : ℕ) : Type 0 where
  pub stages : s ≤ 3
  pub few : n ≤ 64
  pub frames : f ≤ 4096
  pub counts : (j : ℕ) → j < 3 → (design_of ds j).count ≤ 12
  pub rows : f * 2 ^ s * n ≤ buffer
  pub cells : state_length n ≤ state
