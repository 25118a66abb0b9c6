-- What of a slot goes by its mode and its amount alone. Definitions only.
use Rattle.std.specs.Prelude.{ℕ, Float}
use Rattle.floats.specs.Steps.{when◌then◌else◌}
use Rattle.phase.specs.Power.{map_power}
use Rattle.wave.specs.Slot.{in_wave, wave_power}

-- a slot is in one stage at most: its setting's power in the wave stage, otherwise its map's
unfoldable pub power_of : ℕ → Float → Float
power_of mode a = when in_wave mode then wave_power mode a else map_power mode a
