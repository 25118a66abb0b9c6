-- Demand 3, the statement. "Run A makes a block in one accepted call. Run B is any list of block run calls, accepted or refused, whose
-- accepted ranges follow one another from the block's start to its end." Quoted are demand 3 and document 01, "A block and its cuts". What a call does is
-- `Meets`, the contract of `block_run`; a call is a record with any arguments and any buffers. Floats are compared by `≡`: one nan, and
-- otherwise one value for each pattern. Definitions only.
use Rattle.std.specs.Prelude.{ℕ, ◌+◌, ◌<◌, ◌≤◌, ◌≡◌, cond, List, [], ◌∷◌, ◌++◌, eqb, get_or, length, Float}
use Rattle.std.specs.Float.{nan}
use Rattle.grid.specs.Functions.{table}
use Rattle.grid.specs.Cells.{col, column}
use Rattle.share.specs.Share.{Buffers}
use Rattle.block.specs.Call.{Call, Meets, refusal_of, lanes_of, inputs}

-- ---- a lane's state

-- "A lane's state is its cells in the filter pairs, FM carry, `last` and decimator state": 4, 2, 1 and 72 cells, those of unused stages too
abbrev pub state_of : ℕ → ℕ → Buffers → List Float
state_of n lane b = column nan n lane 4 b.pairs ++ column nan n lane 2 b.fm ++ column nan n lane 1 b.last ++ column nan n lane 72 b.dec

abbrev pub entering : Call → ℕ → List Float
entering c lane = state_of (lanes_of c) lane c.before

abbrev pub leaving : Call → ℕ → List Float
leaving c lane = state_of (lanes_of c) lane c.after

-- ---- refused calls

-- the six written buffers, by name
pub data Which : Type 0 where
  output work pairs fm last dec : Which

abbrev pub buffer : Which → Buffers → List Float
buffer output b = b.output
buffer work b = b.work
buffer pairs b = b.pairs
buffer fm b = b.fm
buffer last b = b.last
buffer dec b = b.dec

-- a cell of the lane's state, x before a call and y after it: "lent the lane's state or not", it was kept back, or it lay in any place of
-- any written buffer
pub data Carried (c : Call) (x y : Float) : Type 0 where
  kept_back : x ≡ y → Carried c x y
  lent_at : (w : Which) (i : ℕ) → get_or (buffer w c.before) i nan ≡ x → get_or (buffer w c.after) i nan ≡ y → Carried c x y

-- the lane's state over a call, cell by cell
pub record Around (c : Call) (s t : List Float) : Type 0 where
  pub size : length t ≡ length s
  pub cells : (i : ℕ) → i < length s → Carried c (get_or s i nan) (get_or t i nan)

-- ---- accepted calls

-- "All accepted calls have the same settings, lane count, host rate, factor, designs, sine and arctangent numbers and tables and, for that
-- lane, the same inputs and prepared spans": a `BlockSettings` is all of the first, F among them; `inputs` has the tables, the lane's numbers
-- and its spans "in all rows that line 7 asks for", so that buffers are free past that, and absent in both where absent in one. The counts
-- of coefficients and numbers lent, the other lanes' inputs and the number of active lanes are free
pub record Alike (a c : Call) (lane : ℕ) : Type 0 where
  pub settings : c.settings ≡ a.settings
  pub inputs : inputs c lane ≡ inputs a lane
  -- "any lane active in all accepted calls"
  pub active : lane < c.active

-- "Run A makes a block in one accepted call", the lane being active
pub record RunA (a : Call) (lane : ℕ) : Type 0 where
  pub meets : Meets a
  pub accepted : refusal_of a ≡ 0
  pub active : lane < a.active
  pub first : a.range.first ≡ 0
  pub count : a.range.count ≡ a.settings.shaper.frames

-- ---- Run B

-- Run B from host frame `at` and the lane's state s to the block's end and the state e. Between two calls all is free but that state:
-- "Other lanes' inputs and state may change at will before each call"
pub data RunB (a : Call) (lane : ℕ) : ℕ → List Float → List Call → List Float → Type 0 where
  -- "the last ends at F"; "with F = 0 no accepted call is needed"
  end : {at : ℕ} {s e : List Float} → at ≡ a.settings.shaper.frames → s ≡ e → RunB a lane at s [] e
  -- "Refused calls may stand anywhere, with any arguments"
  refuse : {at : ℕ} {s t e : List Float} {cs : List Call} (c : Call)
      → Meets c → (refusal_of c ≡ 0 → ⊥) → Around c s t → RunB a lane at t cs e → RunB a lane at s (c ∷ cs) e
  -- "The first accepted range starts at host frame 0, each next one where the one before ended" (the count may be 0), and "each accepted
  -- call of Run B gets it as the calls before left it"
  accept : {at : ℕ} {s e : List Float} {cs : List Call} (c : Call)
      → Meets c → refusal_of c ≡ 0 → Alike a c lane → c.range.first ≡ at → entering c lane ≡ s
      → RunB a lane (at + c.range.count) (leaving c lane) cs e → RunB a lane at s (c ∷ cs) e

-- ---- what is compared

-- "the lane's output at each host frame, in Run B as the accepted call whose range holds that frame leaves it"
abbrev pub rows_of : ℕ → Call → List Float
rows_of lane c =
    cond (eqb (refusal_of c) 0) (table c.range.count (λ k. col nan (lanes_of c) lane c.after.output (c.range.first + k))) []

unfoldable pub output_of : ℕ → List Call → List Float
output_of lane [] = []
output_of lane (c ∷ cs) = rows_of lane c ++ output_of lane cs

-- "each call leaves every output and state cell of its inactive lanes unchanged"
abbrev pub Idle : Call → List Float → List Float → Type 0
Idle c before after = (row lane : ℕ) → c.active ≤ lane → lane < lanes_of c → col nan (lanes_of c) lane after row ≡ col nan (lanes_of c) lane before row

pub record Untouched (c : Call) : Type 0 where
  pub output : Idle c c.before.output c.after.output
  pub pairs : Idle c c.before.pairs c.after.pairs
  pub fm : Idle c c.before.fm c.after.fm
  pub last : Idle c c.before.last c.after.last
  pub dec : Idle c c.before.dec c.after.dec

-- "An accepted call leaves output rows outside its range as they were", in every lane
pub record Outside (c : Call) : Type 0 where
  pub rows : refusal_of c ≡ 0 → (row lane : ℕ) → lane < lanes_of c
      → (c.range.first ≤ row → row < c.range.first + c.range.count → ⊥)
      → col nan (lanes_of c) lane c.after.output row ≡ col nan (lanes_of c) lane c.before.output row

-- of a refused call: "what one is lent comes back as it was", every cell of the six written buffers
abbrev pub Returned : Call → Type 0
Returned c = (refusal_of c ≡ 0 → ⊥) → c.after ≡ c.before

-- of each call of a list
unfoldable pub AllOf : (Call → Type 0) → List Call → Type 0
AllOf P [] = Unit {0}
AllOf P (c ∷ cs) = P c × AllOf P cs

-- "Then both runs have the same output samples and the same whole end state of that lane"; "In both, each call leaves .. unchanged"
pub record Agree (a : Call) (lane : ℕ) (cs : List Call) (e : List Float) : Type 0 where
  pub output : output_of lane cs ≡ output_of lane (a ∷ [])
  pub state : e ≡ leaving a lane
  pub inactive : AllOf Untouched (a ∷ cs)
  pub outside : AllOf Outside (a ∷ cs)
  pub returned : AllOf Returned (a ∷ cs)

-- "Take any such list and any lane"; "Both runs start from the same state of that lane, whatever it is"
unfoldable pub Demand3 : Type 0
Demand3 =
    (a : Call) (lane : ℕ) (cs : List Call) (e : List Float)
    → RunA a lane → RunB a lane 0 (entering a lane) cs e → Agree a lane cs e
