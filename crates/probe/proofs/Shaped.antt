-- A slot's state and its samples over a run, at the start and with one sample more. Assumes nothing.
use mathlib.Core.Path.{◌≡◌, refl}
use mathlib.Core.List.{List}
use Prim.Native.Nat.{ℕ, ◌+◌}
use native.Mathlib.Numerals.{add-one}
use lib.ListN.{get_or}
use lib.Ieee.{Float, nan}
use Rattle.wave.specs.declared.filters.Svf.{Svf}
use Rattle.wave.specs.declared.filters.Filtered.{Filtered}
use Rattle.probe.specs.Waves.{start_in, state_after, shaped_at}

pub state_none : (slot : Float → Svf → Filtered) (xs cells : List Float) → record { ic1 = get_or cells 0 nan; ic2 = get_or cells 1 nan } ≡ state_after slot xs (start_in cells) 0
unfolding state_after start_in
state_none slot xs cells = refl

pub state_more : (slot : Float → Svf → Filtered) (xs : List Float) (start : Svf) (i : ℕ) (s : Svf) (r : Filtered) → s ≡ state_after slot xs start i → r ≡ slot (get_or xs i nan) s → r.state ≡ state_after slot xs start (i + 1)
unfolding state_after
state_more slot xs start i s r h e = rw (add-one, e, h)

pub shaped : (slot : Float → Svf → Filtered) (xs : List Float) (start : Svf) (i : ℕ) (s : Svf) (r : Filtered) → s ≡ state_after slot xs start i → r ≡ slot (get_or xs i nan) s → r.y ≡ shaped_at slot xs start i
unfolding shaped_at
shaped slot xs start i s r h e = rw (e, h)
