-- `lengths::span_length` meets its contract: the product of two numbers below 2^32 fits.
use Prim.Native.Nat.{◌≤◌}
use native.Mathlib.Nat.{mul-le-mul}
use native.Mathlib.Omega.{arith}
use Rattle.limits.specs.Lengths.{spans_of}
use Rattle.limits.proofs.lengths.span_length.Goals as goal

pub overflow_mul-result : goal.overflow_mul-result
unfolding spans_of
overflow_mul-result c =
    let spans : c.spans_of.result ≤ 4294967295 = omega (arith, c.spans_of.ensures) in
    let lanes : c.args.lanes ≤ 4294967295 = omega arith in
    omega (arith, mul-le-mul spans lanes)
