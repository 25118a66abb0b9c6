-- Demand 3 with lanes' calls in Run B: a block made in one block run (Run A), and by any list of block runs and lanes' calls, accepted or
-- refused. The ranges of the accepted ones that run the lane follow one another from the block's start to its end. What each call does
-- beside that, to other lanes and where it is refused, its own contract says (`Meets`, `LaneMeets`). Definitions only.
use Rattle.std.specs.Prelude.{ℕ, ◌+◌, ◌<◌, ◌≡◌, cond, ◌&&◌, List, [], ◌∷◌, ◌++◌, eqb, Float}
use Rattle.std.specs.Float.{nan}
use Rattle.grid.specs.Functions.{table}
use Rattle.grid.specs.Cells.{col}
use Rattle.block.specs.Call.{Call, Meets, refusal_of, lanes_of}
use Rattle.cuts.specs.Cuts.{entering, leaving, Around, Alike, RunA, rows_of, output_of}
use Rattle.lane_run.specs.LaneCall.{lane_refusal_of, LaneMeets}

-- a call of either kind; of a lane's call, the lane
pub data AnyCall : Type 0 where
  block_run : Call → AnyCall
  lane_run_call : ℕ → Call → AnyCall

abbrev pub call_of : AnyCall → Call
call_of (block_run c) = c
call_of (lane_run_call m c) = c

abbrev pub number_of : AnyCall → ℕ
number_of (block_run c) = refusal_of c
number_of (lane_run_call m c) = lane_refusal_of c m

abbrev pub MeetsOf : AnyCall → Type 0
MeetsOf (block_run c) = Meets c
MeetsOf (lane_run_call m c) = LaneMeets c m

-- whether it runs the lane: a block run in which the lane is active (`Alike` asks for that), or the lane's own call
abbrev pub Runs : ℕ → AnyCall → Type 0
Runs lane (block_run c) = Unit {0}
Runs lane (lane_run_call m c) = m ≡ lane

-- Run B from host frame `at` and the lane's state s to the block's end and the state e, as `RunB` has it
pub data ByLanes (a : Call) (lane : ℕ) : ℕ → List Float → List AnyCall → List Float → Type 0 where
  done : {at : ℕ} {s e : List Float} → at ≡ a.settings.shaper.frames → s ≡ e → ByLanes a lane at s [] e
  -- a refused call of either kind, for any lane and with any arguments
  refused : {at : ℕ} {s t e : List Float} {xs : List AnyCall} (x : AnyCall)
      → MeetsOf x → (number_of x ≡ 0 → ⊥) → Around (call_of x) s t → ByLanes a lane at t xs e → ByLanes a lane at s (x ∷ xs) e
  -- an accepted one that runs the lane
  taken : {at : ℕ} {s e : List Float} {xs : List AnyCall} (x : AnyCall)
      → MeetsOf x → number_of x ≡ 0 → Runs lane x → Alike a (call_of x) lane → (call_of x).range.first ≡ at → entering (call_of x) lane ≡ s
      → ByLanes a lane (at + (call_of x).range.count) (leaving (call_of x) lane) xs e → ByLanes a lane at s (x ∷ xs) e
  -- an accepted one for another lane, with any arguments: the lane's state lies in its buffers
  other : {at : ℕ} {s e : List Float} {xs : List AnyCall} (m : ℕ) (c : Call)
      → LaneMeets c m → lane_refusal_of c m ≡ 0 → (m ≡ lane → ⊥) → lane < lanes_of c → entering c lane ≡ s
      → ByLanes a lane at (leaving c lane) xs e → ByLanes a lane at s (lane_run_call m c ∷ xs) e

-- the lane's output in the range of an accepted call that runs it
abbrev pub rows_by : ℕ → AnyCall → List Float
rows_by lane (block_run c) = rows_of lane c
rows_by lane (lane_run_call m c) =
    cond (eqb (lane_refusal_of c m) 0 && eqb m lane) (table c.range.count (λ k. col nan (lanes_of c) lane c.after.output (c.range.first + k))) []

unfoldable pub output_by : ℕ → List AnyCall → List Float
output_by lane [] = []
output_by lane (x ∷ xs) = rows_by lane x ++ output_by lane xs

-- both runs have the same output samples and the same whole end state of that lane
unfoldable pub Demand3ByLanes : Type 0
Demand3ByLanes =
    (a : Call) (lane : ℕ) (xs : List AnyCall) (e : List Float)
    → RunA a lane → ByLanes a lane 0 (entering a lane) xs e → (output_by lane xs ≡ output_of lane (a ∷ [])) × (e ≡ leaving a lane)
