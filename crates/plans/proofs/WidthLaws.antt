-- Each line that has a plan keeps the table's columns. Assumes nothing.
use mathlib.Core.Path.{◌≡◌, refl}
use mathlib.Core.Bool.{Bool, true, false, cond}
use Prim.Native.Nat.{ℕ, ◌+◌, ◌*◌, ◌^◌, ◌≤◌, ◌<◌}
use native.Mathlib.Nat.{mul-le-mul}
use native.Mathlib.Omega.{arith}
use lib.Dec.{eqb}
use lib.ListN.{length}
use borrow.Author.Tests.{eqb-true}
use Rattle.std.proofs.lemmas.Fmt.{length-decimal-le}
use Rattle.std.proofs.lemmas.List.{length-append, length-replicate}
use Rattle.limits.specs.Lines.{bad_factor}
use Rattle.limits.proofs.LineLaws.{the_factor}
use Rattle.halfband.specs.Halfband.{stages_of}
use Rattle.plan.specs.declared.needs.BlockNumbers.{BlockNumbers}
use Rattle.plan.specs.declared.needs.Plan.{Plan}
use Rattle.plan.specs.Counting.{lane_steps}
use Rattle.plan.specs.Plan.{Within, plan_refusal, plan_of, needed, nothing, most_reads, steps_of, floats_of}
use Rattle.plan.proofs.Passed.{passed, within}
use Rattle.plan.proofs.StepLaws.{steps_none, steps_one, steps_two, steps_three, one_most, two_most, three_most}
use Rattle.plans.specs.Planning.{plans_of}
use Rattle.plans.specs.Table.{cell, asked_text, sizes_of, sizes_text, counts_text}
use Rattle.plans.specs.Widths.{InColumns}

-- a number of no more digits than its cell has places
cell_length : (width n : ℕ) → 0 < width → n < 10 ^ width → n < 2 ^ 64 → length (cell width n) ≡ width
unfolding cell
cell_length width n some fits word =
    let digits = length-decimal-le width n some fits word in
    rw (length-append, length-replicate) (omega (arith, digits))

-- ---- what a plan has at most

record Small (p : Plan) : Type 0 where
  pub work : p.work ≤ 2097152
  pub state : p.state ≤ 4608
  pub pairs : p.pairs ≤ 256
  pub fm : p.fm ≤ 128
  pub last : p.last ≤ 64
  pub reads : p.reads ≤ 8388608
  pub steps : p.steps ≤ 22020096

lane_most : (b : BlockNumbers) → Within b → bad_factor b.factor ≡ false → lane_steps b.factor b.frames b.count0 b.count1 b.count2 ≤ 344064
unfolding lane_steps stages_of
lane_most b w good =
    let f = w.most_frames in
    the_factor
    (λ u. lane_steps u b.frames b.count0 b.count1 b.count2 ≤ 344064)
    (rw (steps_none b.count0 b.count1 b.count2 b.frames) (omega arith))
    (rw (steps_one b.count0 b.count1 b.count2 b.frames) (one_most b.count0 b.count1 b.count2 b.frames f w.most0))
    (rw (steps_two b.count0 b.count1 b.count2 b.frames) (two_most b.count0 b.count1 b.count2 b.frames f w.most0 w.most1))
    (rw (steps_three b.count0 b.count1 b.count2 b.frames) (three_most b.count0 b.count1 b.count2 b.frames f w.most0 w.most1 w.most2))
    b.factor
    good

small_needed : (b : BlockNumbers) → plan_refusal b ≡ 0 → Small (needed b)
unfolding needed most_reads steps_of
small_needed b ok =
    let w = within b ok in
    let lanes = w.most_lanes in
    let rows = mul-le-mul w.most_frames w.most_factor in
    let reads = mul-le-mul w.most_active rows in
    let cells = mul-le-mul rows lanes in
    let steps = mul-le-mul w.most_active (lane_most b w (passed b ok).line2) in
    record {
      work = omega (arith, cells);
      state = omega (arith, lanes);
      pairs = omega (arith, lanes);
      fm = omega (arith, lanes);
      last = omega (arith, lanes);
      reads = omega (arith, reads);
      steps = omega (arith, steps);
    }

small_nothing : (n : ℕ) → Small (nothing n)
unfolding nothing
small_nothing n =
    record {
      work = omega arith;
      state = omega arith;
      pairs = omega arith;
      fm = omega arith;
      last = omega arith;
      reads = omega arith;
      steps = omega arith;
    }

small : (b : BlockNumbers) → Small (plan_of b)
unfolding plan_of
small b = go (eqb (plan_refusal b) 0) refl
  where
    go : (t : Bool) → eqb (plan_refusal b) 0 ≡ t → Small (cond t (needed b) (nothing (plan_refusal b)))
    go true e = small_needed b (eqb-true _ _ e)
    go false e = small_nothing _

-- ---- the texts

asked_length : (b : BlockNumbers) → Within b → length (asked_text b) ≡ 37
unfolding asked_text
asked_length b w =
    let a : b.lanes < 1000000 = omega (arith, w.most_lanes) in
    let c : b.active < 10000000 = omega (arith, w.most_active) in
    let d : b.factor < 10000000 = omega (arith, w.most_factor) in
    let e : b.frames < 10000000 = omega (arith, w.most_frames) in
    let f : b.count0 < 10000 = omega (arith, w.most0) in
    let g : b.count1 < 1000 = omega (arith, w.most1) in
    let h : b.count2 < 1000 = omega (arith, w.most2) in
    simp (
      length-append,
      cell_length 6 b.lanes (omega arith) a (omega (arith, a)),
      cell_length 7 b.active (omega arith) c (omega (arith, c)),
      cell_length 7 b.factor (omega arith) d (omega (arith, d)),
      cell_length 7 b.frames (omega arith) e (omega (arith, e)),
      cell_length 4 b.count0 (omega arith) f (omega (arith, f)),
      cell_length 3 b.count1 (omega arith) g (omega (arith, g)),
      cell_length 3 b.count2 (omega arith) h (omega (arith, h)),
    )

sizes_length : (p : Plan) (unit : ℕ) → unit ≤ 4 → Small p → length (sizes_text (sizes_of p unit)) ≡ 37
unfolding sizes_text sizes_of floats_of
sizes_length p unit most s =
    let a : unit * p.work < 100000000 = omega (arith, mul-le-mul most s.work) in
    let c : unit * p.state < 1000000 = omega (arith, mul-le-mul most s.state) in
    let d : unit * p.pairs < 1000000 = omega (arith, mul-le-mul most s.pairs) in
    let e : unit * p.fm < 10000 = omega (arith, mul-le-mul most s.fm) in
    let f : unit * p.last < 100000 = omega (arith, mul-le-mul most s.last) in
    let all : p.work + p.state + p.pairs + p.fm + p.last ≤ 2102208 = omega (arith, s) in
    let g : unit * (p.work + p.state + p.pairs + p.fm + p.last) < 100000000 = omega (arith, mul-le-mul most all) in
    simp (
      length-append,
      cell_length 8 (unit * p.work) (omega arith) a (omega (arith, a)),
      cell_length 6 (unit * p.state) (omega arith) c (omega (arith, c)),
      cell_length 6 (unit * p.pairs) (omega arith) d (omega (arith, d)),
      cell_length 4 (unit * p.fm) (omega arith) e (omega (arith, e)),
      cell_length 5 (unit * p.last) (omega arith) f (omega (arith, f)),
      cell_length 8 (unit * (p.work + p.state + p.pairs + p.fm + p.last)) (omega arith) g (omega (arith, g)),
    )

counts_length : (p : Plan) → Small p → length (counts_text p) ≡ 19
unfolding counts_text
counts_length p s =
    let a : p.reads < 10000000000 = omega (arith, s.reads) in
    let c : p.steps < 1000000000 = omega (arith, s.steps) in
    rw (length-append, cell_length 10 p.reads (omega arith) a (omega (arith, a)), cell_length 9 p.steps (omega arith) c (omega (arith, c)))

-- of the lines that are read, 1,000 at the most
pub in_columns : (line : ℕ) (b : BlockNumbers) → line ≤ 1000 → plan_refusal b ≡ 0 → InColumns line (plans_of b)
unfolding plans_of
in_columns line b read ok =
    let p = small b in
    let four : line < 10000 = omega (arith, read) in
    record {
      number = cell_length 4 line (omega arith) four (omega (arith, four));
      asked = asked_length b (within b ok);
      floats = sizes_length _ 1 (omega arith) p;
      bytes = sizes_length _ 4 (omega arith) p;
      block = counts_length _ p;
      frame = counts_length _ (small _);
    }
