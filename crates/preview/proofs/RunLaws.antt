-- A filter's state over a picture: at the start and with one point more. Assumes nothing.
use mathlib.Core.Path.{◌≡◌, refl}
use mathlib.Core.List.{List}
use Prim.Native.Nat.{ℕ, ◌+◌}
use native.Mathlib.Numerals.{add-one}
use lib.ListN.{length, get_or}
use lib.Ieee.{Float, nan}
use Rattle.wave.specs.declared.filters.Svf.{Svf}
use Rattle.wave.specs.declared.filters.Filtered.{Filtered}
use Rattle.grid.specs.Runs.{Ran}
use Rattle.grid.proofs.RunLaws.{ran_done}
use Rattle.preview.specs.Filtering.{pass_to, settled_to, drawn_at, silent, filtered_of}

-- ---- a filter's state

module _ (step : Float → Svf → Filtered) (xs : List Float) (start : Svf) where
  pub pass_none : start ≡ pass_to step xs start 0
  unfolding pass_to
  pass_none = refl

  pub pass_more : (i : ℕ) (s : Svf) (r : Filtered) → s ≡ pass_to step xs start i → r ≡ step (get_or xs i nan) s → r.state ≡ pass_to step xs start (i + 1)
  unfolding pass_to
  pass_more i s r h e = rw (add-one, e, h)

  pub point_drawn : (i : ℕ) (s : Svf) (r : Filtered) → s ≡ pass_to step xs start i → r ≡ step (get_or xs i nan) s → r.y ≡ drawn_at step xs start i
  point_drawn i s r h e = rw (e, h)

  pub settled_none : start ≡ settled_to step xs start 0
  unfolding settled_to
  settled_none = refl

  pub settled_more : (i : ℕ) (s r : Svf) → s ≡ settled_to step xs start i → r ≡ pass_to step xs s (length xs) → r ≡ settled_to step xs start (i + 1)
  unfolding settled_to
  settled_more i s r h e = rw (add-one, ← h) e

-- the pass that is drawn from the settled state
pub filtered : (step : Float → Svf → Filtered) (xs ys : List Float) (s : Svf) → s ≡ settled_to step xs silent 15 → Ran nan (drawn_at step xs s) xs ys (length xs) → ys ≡ filtered_of step xs
unfolding filtered_of
filtered step xs ys s e r = ran_done _ xs ys (rw e at r)
