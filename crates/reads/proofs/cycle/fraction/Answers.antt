-- `reads::fraction` meets its contract.
use Prim.Native.Nat.{◌+◌, ◌%◌}
use native.Mathlib.Omega.{arith}
use Rattle.floats.proofs.Patterns.{bits_no_nan}
use Rattle.reads.proofs.FractionLaws.{fraction_by_pattern}
use Rattle.reads.proofs.cycle.fraction.Goals as goal

pub float_from_bits-result : goal.float_from_bits-result
float_from_bits-result c = rw (bits_no_nan (1082130432 + c.args.word % 2097152) (omega arith)) tt

pub returns : goal.returns
returns c = fraction_by_pattern c.args.word
