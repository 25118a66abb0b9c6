-- `Record::read` meets its contract, by the lines that a record's parts pass or not.
use Rattle.std.proofs.Common.{arith, sym, ◌∙◌, rules}
use Rattle.limits.specs.Refusals.{number_of, line_of}
use Rattle.files.proofs.BodyLaws.{unknown_in, other_length, fields_number, IsPart}
use Rattle.files.proofs.records.Record.read.Goals as goal
use Rattle.files.proofs.records.Record.read.Goals.{In-Some-len2-up}

-- what the length counts
part : (c : In-Some-len2-up) → IsPart c.args.rest.now c.in-Some-len2-up.field-0.now c.from.result
part c =
    record {
      long = omega arith;
      size = c.from.ensures ∙ c.from_le_bytes-length.ensures;
      whole = omega (arith, c.in-Some-len2-up.ensures.lookup.0);
      is = c.in-Some-len2-up.ensures.lookup.0.2;
      kinded = omega arith;
    }

pub returns-in_err-try_from-clause-number : goal.returns-in_err-try_from-clause-number
unfolding number_of line_of
returns-in_err-try_from-clause-number c =
    let p = part (goal.at.returns-in_err-try_from-clause-number c).In-Some-len2-up in
    let t = unknown_in _ _ _ p c.from-2.result (c.from-2.ensures ∙ c.from_le_bytes.ensures) c.in_err-try_from.ensures.1 in
    search rules

pub returns-then-length-eq-LENGTH-clause-number : goal.returns-then-length-eq-LENGTH-clause-number
returns-then-length-eq-LENGTH-clause-number c =
    let p = part (goal.at.returns-then-length-eq-LENGTH-clause-number c).In-Some-len2-up in
    let k = c.from-2.ensures ∙ c.from_le_bytes.ensures in
    rw c.fields_at.ensures at c.try_from-then-length-eq-LENGTH.ensures.0
    ∙ fields_number _ _ _ p c.in_ok-try_from.field-0 c.from-2.result c.in_ok-try_from.ensures k (c.from.ensures ∙ c.if-length-eq-LENGTH.true)

pub returns-else-length-eq-LENGTH-clause-number : goal.returns-else-length-eq-LENGTH-clause-number
unfolding number_of line_of
returns-else-length-eq-LENGTH-clause-number c =
    let p = part (goal.at.returns-else-length-eq-LENGTH-clause-number c).In-Some-len2-up in
    let k = c.from-2.ensures ∙ c.from_le_bytes.ensures in
    other_length _ _ _ p c.in_ok-try_from.field-0 c.from-2.result c.in_ok-try_from.ensures k (λ h. c.if-length-eq-LENGTH.false (sym c.from.ensures ∙ h))
