-- No mode of the wave stage reads the oscillator's own signal, so that stage needs no `last`. Assumes nothing.
use Prim.Native.Nat.{ℕ, ◌≤◌, ◌<◌}
use native.Mathlib.Omega.{arith}
use mathlib.Core.Path.{◌≡◌, refl, sym, ap}
use mathlib.Core.Bool.{Bool, true, false, not, ◌&&◌}
use lib.Dec.{T, ltb, ltb→lt, nltb→le}
use Rattle.modes.specs.Table.{Row, stage_of, source_of}
use Rattle.modes.proofs.Ranges.{range}
use Rattle.modes.proofs.Laws.{beyond}
use Rattle.wave.specs.Slot.{in_wave}
use Rattle.voice.specs.PhaseRun.{says_own, is_own}

abbrev both : ℕ → Bool
both mode = in_wave mode && is_own mode

-- the 70 modes of the table
listed : (mode : ℕ) → mode < 70 → false ≡ both mode
unfolding in_wave is_own stage_of source_of
listed mode h = range both false 0 70 refl (omega arith) h

-- above them every fact is the refusal
refused : (mode : ℕ) → 70 ≤ mode → is_own mode ≡ false
unfolding is_own source_of
refused mode h = sym (ap says_own (beyond (λ (r : Row). r.source) h))

pub wave_not_own : (mode : ℕ) → in_wave mode ≡ true → is_own mode ≡ false
wave_not_own mode w = go (ltb mode 70) (ltb→lt mode 70) (nltb→le mode 70)
  where
    go : (below : Bool) → (T below → mode < 70) → (T (not below) → 70 ≤ mode) → is_own mode ≡ false
    go true h k = sym (rw w at (listed mode (h tt)))
    go false h k = refused mode (k tt)
