-- The ranges of a record's fields. Assumes nothing.
use mathlib.Core.Path.{◌≡◌}
use mathlib.Core.Bool.{true, false}
use Prim.Native.Nat.{ℕ, ◌≤◌}
use native.Mathlib.Omega.{arith}
use borrow.Author.Tests.{ltb-false, le-ltb, eqb-true}
use lib.Dec.{ltb}
use Rattle.limits.specs.Lines.{bad_mode}
use Rattle.std.proofs.lemmas.Bool.{or_parts}
use Rattle.files.specs.declared.fields.Entry.{Entry}
use Rattle.files.specs.Format.{known_kind, bad_fields}

-- no field is out of its range
pub record InRange (e : Entry) : Type 0 where
  pub slot : e.slot ≤ 1
  pub mode : e.mode ≤ 69
  pub hundredths : e.hundredths ≤ 10000
  pub tenthousandths : e.tenthousandths ≤ 10000

pub good_fields : (e : Entry) → bad_fields e ≡ false → InRange e
good_fields e good =
    let p = or_parts _ (ltb 10000 e.tenthousandths) good in
    let q = or_parts _ (ltb 10000 e.hundredths) p.0 in
    let r = or_parts (ltb 1 e.slot) (bad_mode e.mode) q.0 in
    record {
      slot = ltb-false 1 e.slot r.0;
      mode = omega (arith, ltb-false 69 e.mode r.1);
      hundredths = ltb-false 10000 e.hundredths q.1;
      tenthousandths = ltb-false 10000 e.tenthousandths p.1;
    }

pub in_ranges : (e : Entry) → InRange e → bad_fields e ≡ false
in_ranges e i =
    rw (le-ltb 1 e.slot i.slot, le-ltb 69 e.mode i.mode, le-ltb 10000 e.hundredths i.hundredths, le-ltb 10000 e.tenthousandths i.tenthousandths)

-- a known kind has two bytes
pub small_kind : (kind : ℕ) → known_kind kind ≡ true → kind ≤ 65535
unfolding known_kind
small_kind kind e = omega (arith, eqb-true kind 1 e)
