-- `lines::check_lines` meets its contract: it returns at the first line that holds.
use mathlib.Core.Path.{◌≡◌, sym, ◌∙◌}
use mathlib.Core.Bool.{Bool, true, false}
use mathlib.Core.List.{List}
use Prim.Native.Nat.{ℕ, ◌+◌, ◌<◌}
use native.Mathlib.Omega.{arith}
use lib.ListN.{length, get_or, drop}
use Rattle.limits.specs.declared.refusal.Refusal.{Refusal}
use Rattle.limits.specs.Lines.{first_of}
use Rattle.limits.specs.Refusals.{number_of, line_of, numbered}
use Rattle.limits.proofs.LineLaws.{first_of-drop, first_of_none}
use Rattle.limits.proofs.lines.check_lines.Goals as goal

-- the line that is tested holds, or does not
held : (lines : List (Bool × Refusal)) (i : ℕ) (d : Bool × Refusal) → i < length lines → first_of (numbered lines) ≡ first_of (numbered (drop i lines))
    → (get_or lines i d).0 ≡ true → line_of (get_or lines i d).1 ≡ first_of (numbered lines)
held lines i d h e t = sym (e ∙ rw t at (first_of-drop lines i d h))

passed : (lines : List (Bool × Refusal)) (i : ℕ) (d : Bool × Refusal) → i < length lines → first_of (numbered lines) ≡ first_of (numbered (drop i lines))
    → (get_or lines i d).0 ≡ false → first_of (numbered lines) ≡ first_of (numbered (drop (i + 1) lines))
passed lines i d h e f = e ∙ rw f at (first_of-drop lines i d h)

pub returns-then-holds : goal.returns-then-holds
unfolding number_of
returns-then-holds c = held _ _ _ c.loop-holds-test.true c.loop-holds.invariant c.if-holds.true

pub loop-holds-preserved : goal.loop-holds-preserved
loop-holds-preserved c = passed _ _ _ c.loop-holds-test.true c.loop-holds.invariant c.if-holds.false

pub returns : goal.returns
unfolding number_of
returns c = sym (c.loop-holds.invariant ∙ first_of_none c.args.lines.now c.loop-holds.holds-index (omega arith))
