use Rattle.std.proofs.Common.{◌≡◌, drop}
use Rattle.limits.specs.Refusals.{numbered}
use Rattle.limits.specs.Lines.{first_of}
use Rattle.limits.proofs.lines.check_lines.Given as goal

-- no line before this one holds
abbrev pub invariant-loop-holds : goal.invariant-loop-holds
invariant-loop-holds l = first_of (numbered l.lines) ≡ first_of (numbered (drop l.holds-index l.lines))
