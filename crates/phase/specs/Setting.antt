-- A slot's map as `map` takes it: `a` is the amount, 0 to 1, h the crossfade's half width, in cycles. Definitions only.
use Rattle.std.specs.Prelude.{Bool, Option, Some, None, refl, Float}
use Rattle.floats.specs.Steps.{when◌then◌else◌}
use Rattle.phase.specs.declared.map.Slot.{Slot}
use Rattle.phase.specs.declared.setting.MapSetting.{MapSetting}
use Rattle.phase.specs.Power.{map_power}

unfoldable pub setting_of : Slot → Float → Float → MapSetting
setting_of slot a h = record { slot = slot; amount = a; power = map_power slot.mode a; half = h; powered = refl }

-- of a slot that is on
unfoldable pub setting_if : Bool → Slot → Float → Float → Option MapSetting
setting_if on slot a h = when on then Some (setting_of slot a h) else None
