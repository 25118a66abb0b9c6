-- `floats::in_range` meets its contract.
use mathlib.Core.Path.{◌≡◌, refl}
use mathlib.Core.Bool.{false}
use lib.Ieee.{binary64, of_bits, is_nan}
use Rattle.floats.proofs.root.in_range.Goals as goal

least : is_nan (of_bits binary64 4841369599431671808) ≡ false
unfolding is_nan of_bits
least = refl

pub returns-else-s : goal.returns-else-s
returns-else-s c = least
