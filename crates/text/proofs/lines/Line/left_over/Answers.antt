-- What is left over is the buffer's law. Assumes nothing.
use Rattle.std.proofs.Common.{◌≡◌, ℕ, Bool, true, false, List, [], ◌∷◌, Bor, arith}
use mathlib.Core.Path.{refl}
use Rattle.std.specs.Prelude.{cond}
use Rattle.std.specs.Bool.{then_some}
use Rattle.std.specs.Option.{option_map, option_to_list}
use Rattle.text.specs.Buffers.{held_of}
use Rattle.text.proofs.BufferLaws.{left_over_lem}
use Rattle.text.proofs.lines.Line.left_over.Goals as goal

-- a line that is there by a test
if_there : (t : Bool) (line : Bor (List ℕ)) → option_to_list (option_map (λ l. l.now) (then_some t line)) ≡ cond t (line.now ∷ []) []
if_there true line = refl
if_there false line = refl

pub returns : goal.returns
returns c =
    rw (left_over_lem c.args.self.now.bytes (held_of c.args.self.now) (omega arith), ← c.is_left_over.ensures, c.then_some.ensures, ← c.bytes.ensures)
    (if_there c.is_left_over.result c.bytes.result)
