-- A slot that is not in the wave stage leaves sample and state. Assumes nothing.
use mathlib.Core.Bool.{false}
use mathlib.Core.Path.{◌≡◌}
use mathlib.Core.List.{List}
use lib.Ieee.{Float}
use Rattle.floats.specs.Steps.{◌>>=◌, left}
use Rattle.phase.specs.declared.map.Slot.{Slot}
use Rattle.wave.specs.declared.filters.Svf.{Svf}
use Rattle.wave.specs.Slot.{in_wave, setting_of, shape_of}
use Rattle.voice.specs.declared.control.Control.{Control}
use Rattle.voice.specs.WaveRun.{slot_of}

pub not_wave : (sk : List Float) (slot : Slot) (control : Control) (increment x : Float) (state : Svf) → in_wave slot.mode ≡ false
    → record { y = x; state = state } ≡ slot_of sk slot control increment x state
unfolding slot_of setting_of shape_of ◌>>=◌
not_wave sk slot control increment x state e = rw (left _ _ e)
