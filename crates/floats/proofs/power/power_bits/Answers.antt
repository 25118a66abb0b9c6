-- `floats::power_bits` meets its contract.
use mathlib.Core.Path.{◌≡◌, ap, ◌∙◌}
use mathlib.Core.List.{List}
use Prim.Native.Nat.{ℕ, ◌+◌, ◌-◌, ◌*◌, ◌/◌, ◌%◌}
use native.Mathlib.Omega.{arith}
use lib.ListN.{get_or}
use Rattle.floats.specs.Exp2.{entry_of}
use Rattle.floats.proofs.Mixing.{Mixed, at, powers}
use Rattle.floats.proofs.Patterns.{made}
use Rattle.floats.proofs.power.power_bits.Goals as goal
use Rattle.floats.proofs.power.power_bits.Goals.{After-power_table-powers}

-- the table's entries are the specification's
abbrev one : After-power_table-powers → ℕ
one c = get_or c.power_table-powers.result.now (c.args.n / 256 % 256) 0

abbrev two : After-power_table-powers → ℕ
two c = get_or c.power_table-powers.result.now (c.args.n / 256 % 256 + 1) 0

first : (c : After-power_table-powers) → one c ≡ entry_of (c.args.n / 256 % 256)
unfolding entry_of
first c = ap (λ (l : List ℕ). get_or l (c.args.n / 256 % 256) 0) c.power_table-powers.ensures.value

second : (c : After-power_table-powers) → two c ≡ entry_of (c.args.n / 256 % 256 + 1)
unfolding entry_of
second c = ap (λ (l : List ℕ). get_or l (c.args.n / 256 % 256 + 1) 0) c.power_table-powers.ensures.value

here : (c : After-power_table-powers) → Mixed (one c) (two c) (256 - c.args.n % 256) (c.args.n % 256)
here c = at c.args.n (one c) (two c) (first c) (second c)

pub overflow_add-result : goal.overflow_add-result
overflow_add-result c = let h = here (goal.at.overflow_add-result c).After-power_table-powers in omega arith

pub returns : goal.returns
returns c =
    let s = (goal.at.returns c).After-power_table-powers in
    let n = s.args.n in
    let h = here s in (
      omega arith,
      made (n / 65536 - 2) ((one s * (256 - n % 256) + two s * (n % 256)) / 256) (omega arith) h.low h.high ∙ powers n (one s) (two s) (first s) (second s),
    )
