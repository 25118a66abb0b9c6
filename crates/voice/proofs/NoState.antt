-- A slot without a state: its setting is a level, or none. Assumes nothing.
use mathlib.Core.Bool.{Bool, true, false, not, ◌&&◌, true≢false}
use mathlib.Core.Path.{◌≡◌, refl, sym}
use mathlib.Core.List.{List}
use lib.Ieee.{Float}
use Rattle.std.specs.Prelude.{ℕ, Option, Some, None}
use Rattle.floats.specs.Steps.{◌>>=◌, when◌then◌else◌}
use Rattle.phase.specs.declared.map.Slot.{Slot}
use Rattle.wave.specs.declared.filters.Svf.{Svf}
use Rattle.wave.specs.declared.slots.Setting.{Setting}
use Rattle.wave.specs.Slot.{in_wave, is_filter, is_modulated, is_level, level_setting, filter_setting, curve_setting, setting_of, level_of, shape_of}
use Rattle.voice.specs.declared.control.Control.{Control}
use Rattle.voice.specs.WaveRun.{slot_of, has_state}

-- by the tests: in the wave stage, a filter, modulated
by_tests : (w f m : Bool) (filter level curve : Option Setting) → (w && not (not f && m)) ≡ false → w ≡ true
    → (when w then (when f then filter else (when m then level else curve)) else None) ≡ level
unfolding when◌then◌else◌
by_tests false f m filter level curve h e = absurd (true≢false (sym e))
by_tests true true m filter level curve h e = absurd (true≢false h)
by_tests true false true filter level curve h e = refl
by_tests true false false filter level curve h e = absurd (true≢false h)

-- a level, or none, leaves the state
levelled : (sk : List Float) (mode : ℕ) (a : Float) (source : Option Float) (increment x : Float) (state : Svf)
    → record { y = level_of mode (level_setting a source) x; state = state } ≡ shape_of sk mode (level_setting a source) increment x state
unfolding shape_of level_of
levelled sk mode a None increment x state = refl
levelled sk mode a (Some s) increment x state = refl

pub no_state : (sk : List Float) (slot : Slot) (control : Control) (increment x : Float) (state : Svf) → has_state slot.mode ≡ false → in_wave slot.mode ≡ true
    → record { y = level_of slot.mode (level_setting control.amount control.source) x; state = state } ≡ slot_of sk slot control increment x state
unfolding slot_of setting_of has_state is_level ◌>>=◌
no_state sk slot control increment x state h e =
    rw
    (by_tests (in_wave slot.mode) (is_filter slot.mode) (is_modulated slot.mode) (Some (filter_setting slot.mode control.amount slot.character))
    (level_setting control.amount control.source) (Some (curve_setting slot.mode control.amount)) h e)
    (levelled sk slot.mode control.amount control.source increment x state)
