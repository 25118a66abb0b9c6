-- A slot's power by its stage. Assumes nothing.
use Prim.Native.Nat.{ℕ}
use mathlib.Core.Bool.{true, false}
use mathlib.Core.Path.{◌≡◌, refl, sym, path_j'}
use lib.Ieee.{Float}
use Rattle.floats.specs.Steps.{taken, left}
use Rattle.std.specs.Prelude.{Result, Ok, Err}
use Rattle.limits.specs.declared.refusal.Refusal.{Refusal}
use Rattle.modes.specs.declared.facts.Stage.{Stage}
use Rattle.modes.specs.declared.facts.Stage.TheVariants.{Off, Phase, Wave}
use Rattle.modes.specs.Table.{stage_of}
use Rattle.phase.specs.declared.map.Slot.{Slot}
use Rattle.phase.specs.Power.{map_power}
use Rattle.phase.specs.Setting.{setting_of}
use Rattle.wave.specs.Slot.{says_wave, in_wave, wave_power}
use Rattle.voice.specs.PhaseRun.{says_phase, in_phase}
use Rattle.voice.specs.Power.{power_of}

-- a slot in the phase stage is not in the wave stage
one_stage : (s : Result Stage Refusal) → says_phase s ≡ true → says_wave s ≡ false
one_stage (Ok Off) e = refl
one_stage (Ok Phase) e = refl
one_stage (Ok Wave) e = sym e
one_stage (Err _) e = refl

pub phase_not_wave : (mode : ℕ) → in_phase mode ≡ true → in_wave mode ≡ false
unfolding in_phase in_wave
phase_not_wave mode e = one_stage (stage_of mode) e

pub phase_power : (mode : ℕ) (a power : Float) → in_phase mode ≡ true → power ≡ power_of mode a → power ≡ map_power mode a
unfolding power_of
phase_power mode a power e h = rw (left _ _ (phase_not_wave mode e)) at h

pub wave_power_lem : (mode : ℕ) (a power : Float) → in_wave mode ≡ true → power ≡ power_of mode a → power ≡ wave_power mode a
unfolding power_of
wave_power_lem mode a power e h = rw (taken _ _ e) at h

-- a map's setting by a power that is the map's
pub set_powered : (slot : Slot) (a power h : Float) (e : power ≡ map_power slot.mode a)
    → record { slot = slot; amount = a; power = power; half = h; powered = e } ≡ setting_of slot a h
unfolding setting_of
set_powered slot a power h e = path_j' (λ (p : Float) (e : p ≡ map_power slot.mode a). record { slot = slot; amount = a; power = p; half = h; powered = e } ≡ setting_of slot a h) refl e
