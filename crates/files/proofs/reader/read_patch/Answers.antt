-- `read_patch` meets its contract. The invariant: what is left to read is the whole file's reading.
use Rattle.std.proofs.Common.{◌≡◌, arith, ◌∙◌, rules, Err}
use Rattle.limits.proofs.LineLaws.{some_line}
use Rattle.files.specs.Reader.{reading_as, reading_of, empty_slots}
use Rattle.files.proofs.ReaderLaws.{onward_none, onward_more, onward_refused, onward_done, within_limit}
use Rattle.files.proofs.reader.read_patch.Goals as goal
use Rattle.files.proofs.reader.read_patch.Goals.{else-loop-at-test, then-loop-at-test+in_ok-record_at+else-at-end-at-gt14}

pub loop-at-init : goal.loop-at-init
loop-at-init c = let e : c.default-slots.result ≡ empty_slots = search rules in (omega arith, rw e (onward_none _))

pub returns-in_err-record_at : goal.returns-in_err-record_at
unfolding reading_as
returns-in_err-record_at c =
    let e = c.in_err-record_at.ensures.err in
    let p = some_line c.in_err-record_at.field-0.0.refusal in
    let stops = onward_refused _ _ _ c.loop-at-test.true (λ z. omega arith) c.loop-at.invariant.1 ∙ within_limit _ c.if-file-gt-LIMIT.false in
    let t : reading_as (Err c.in_err-record_at.field-0.0) ≡ reading_of c.args.file.now = rw (e.0, ← e.1) at stops in
    search rules

pub returns : goal.returns
unfolding reading_as
returns c =
    let few = c.if-file-gt-LIMIT.false in
    let kept = c.loop-at.invariant.1 in
    elim c.loop-at-test.branch [
      | else-loop-at-test w ↦ rw (c.patch.ensures, w.slots-is) (onward_done _ _ _ w.loop-at-test.false kept ∙ within_limit _ few)
      | then-loop-at-test+in_ok-record_at+else-at-end-at-gt14 w ↦
          let o = w.in_ok-record_at.ensures.ok in
          rw (c.patch.ensures, w.slots-is, w.with-slots.ensures, o.1)
          (onward_done _ _ _ (omega arith) (onward_more _ _ _ w.loop-at-test.true o.0 kept) ∙ within_limit _ few)
    ]
