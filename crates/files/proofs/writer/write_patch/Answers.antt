-- `write_patch` meets its contract.
use Rattle.std.proofs.Common.{◌∙◌, rules}
use Rattle.limits.specs.Refusals.{number_of}
use Rattle.files.proofs.WriterLaws.{first_refused, second_refused, too_short, wrote, both_written}
use Rattle.files.proofs.writer.write_patch.Goals as goal

pub returns-in_err-first : goal.returns-in_err-first
unfolding number_of
returns-in_err-first c =
    let t = first_refused c.args.patch c.args.file.now c.in_err-first.field-0.0 c.in_err-first.ensures.number in
    search rules

pub returns-in_err-second : goal.returns-in_err-second
unfolding number_of
returns-in_err-second c =
    let t = second_refused c.args.patch c.args.file.now c.in_err-second.field-0.0 c.in_ok-first.ensures.number c.in_err-second.ensures.number in
    search rules

pub returns-then-file-lt-PATCH : goal.returns-then-file-lt-PATCH
unfolding number_of
returns-then-file-lt-PATCH c = too_short _ _ c.in_ok-first.ensures.number c.in_ok-second.ensures.number c.if-file-lt-PATCH.true

pub returns : goal.returns
unfolding number_of
returns c =
    let u = c.copy_from_slice.ensures.after ∙ c.bytes.ensures in
    let v = c.copy_from_slice-2.ensures.after ∙ c.bytes-2.ensures in
    wrote _ _ c.in_ok-first.ensures.number c.in_ok-second.ensures.number _ c.if-file-lt-PATCH.false
    (both_written c.args.patch c.in_ok-first.first c.in_ok-second.second c.in_ok-first.ensures.ok c.in_ok-second.ensures.ok _ _ c.args.file.now u v)
