-- `voice::fm_exponential` meets its contract.
use mathlib.Core.Path.{◌≡◌, refl}
use lib.Ieee.{mul, of_bits}
use Rattle.floats.specs.F32.{◌⊗◌, bits, 2f}
use Rattle.floats.specs.Steps.{given}
use Rattle.lanes.specs.Maths.{ln2}
use Rattle.voice.specs.PhaseRun.{fm_exponential}
use Rattle.voice.proofs.phase_run.fm_exponential.Goals as goal

twice-ln2 : 2f ⊗ ln2 ≡ bits 0x3fb1_7218
unfolding mul of_bits
twice-ln2 = refl

pub returns : goal.returns
unfolding fm_exponential
returns c = rw (given c.exp2-up.ensures, given c.exp2-down.ensures, twice-ln2)
