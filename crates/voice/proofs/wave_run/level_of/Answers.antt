-- `voice::level_of` meets its contract.
use mathlib.Core.Path.{sym, ◌∙◌}
use Rattle.voice.proofs.NoState.{no_state}
use Rattle.voice.proofs.NotWave.{not_wave}
use Rattle.voice.proofs.wave_run.level_of.Goals as goal

pub returns-then-not-in_wave : goal.returns-then-not-in_wave
returns-then-not-in_wave c = λ sk increment state.
    not_wave sk c.args.slot c.args.control increment c.args.x state (sym c.in_wave.ensures ∙ c.if-not-in_wave.true)

pub returns : goal.returns
returns c = λ sk increment state.
    rw (c.level.ensures, c.level_setting.ensures)
    (no_state sk c.args.slot c.args.control increment c.args.x state c.requires (sym c.in_wave.ensures ∙ c.if-not-in_wave.false))
