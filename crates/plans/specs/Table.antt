-- The rows of the table. Definitions only.
use Rattle.std.specs.Prelude.{Result, Ok, Err, List, [], ◌++◌, ℕ, ◌-◌, ◌*◌, length, replicate, codes}
use Rattle.std.specs.Fmt.{decimal}
use Rattle.plan.specs.declared.needs.BlockNumbers.{BlockNumbers}
use Rattle.plan.specs.declared.needs.Plan.{Plan}
use Rattle.plan.specs.Plan.{floats_of}
use Rattle.limits.specs.declared.refusal.Refusal.{Refusal}
use Rattle.limits.specs.Refusals.{line_of}
use Rattle.plans.specs.declared.planning.LinePlan.{LinePlan}
use Rattle.plans.specs.declared.planning.NoPlan.{NoPlan}
use Rattle.plans.specs.declared.planning.NoPlan.TheVariants.{NotSevenNumbers, TurnedDown}
use Rattle.plans.specs.declared.table.Sizes.{Sizes}

abbrev pub blanks : ℕ → List ℕ
blanks n = replicate n 32

-- a number in the fewest digits that hold it, after as many blanks as fill the width
unfoldable pub cell : ℕ → ℕ → List ℕ
cell width n = blanks (width - length (decimal n)) ++ decimal n

-- what a line asks for
unfoldable pub asked_text : BlockNumbers → List ℕ
asked_text b =
    cell 6 b.lanes ++ (cell 7 b.active ++ (cell 7 b.factor ++ (cell 7 b.frames
    ++ (cell 4 b.count0 ++ (cell 3 b.count1 ++ cell 3 b.count2)))))

-- the size of each buffer and of all of them, where a float is so many of the unit
unfoldable pub sizes_of : Plan → ℕ → Sizes
sizes_of p unit =
    record {
      work = unit * p.work;
      state = unit * p.state;
      pairs = unit * p.pairs;
      fm = unit * p.fm;
      last = unit * p.last;
      sum = unit * floats_of p;
    }

unfoldable pub sizes_text : Sizes → List ℕ
sizes_text s = cell 8 s.work ++ (cell 6 s.state ++ (cell 6 s.pairs ++ (cell 4 s.fm ++ (cell 5 s.last ++ cell 8 s.sum))))

-- most reads and steps
unfoldable pub counts_text : Plan → List ℕ
counts_text p = cell 10 p.reads ++ cell 9 p.steps

-- floats above bytes, and the block's reads and steps above one host frame's
unfoldable pub rows_text : ℕ → LinePlan → List ℕ
rows_text number plans =
    cell 4 number ++ (asked_text plans.numbers
    ++ (codes "  floats" ++ (sizes_text (sizes_of plans.block 1) ++ (codes "  block     " ++ (counts_text plans.block ++ (codes "\n"
    ++ (blanks 43 ++ (codes "bytes " ++ (sizes_text (sizes_of plans.block 4)
    ++ (codes "  host frame" ++ (counts_text plans.frame ++ codes "\n")))))))))))

-- ---- why a line has no plan

-- as far as a plan can meet a refusal
unfoldable pub meaning_of : Refusal → List ℕ
meaning_of Refusal.Factor = codes ": the factor is not 1, 2, 4 or 8"
meaning_of Refusal.Lanes = codes ": the lane count is not 1..64, or the active lanes are more"
meaning_of Refusal.Frames = codes ": a block above 4,096 frames"
meaning_of Refusal.Design = codes ": a design's count is not 1..12"
meaning_of _ = []

unfoldable pub reason_text : NoPlan → List ℕ
reason_text NotSevenNumbers = codes "not seven decimal numbers below 4294967296"
reason_text (TurnedDown refusal) = codes "refused " ++ (decimal (line_of refusal) ++ meaning_of refusal)

-- ---- the whole entry of a line

unfoldable pub entry_text : ℕ → Result LinePlan NoPlan → List ℕ
entry_text number (Ok plans) = rows_text number plans
entry_text number (Err reason) = cell 4 number ++ (codes "  " ++ (reason_text reason ++ codes "\n"))
