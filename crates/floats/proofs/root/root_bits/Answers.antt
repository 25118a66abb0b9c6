-- `floats::root_bits` meets its contract.
use mathlib.Core.Path.{◌≡◌, ap, ◌∙◌, subst}
use Prim.Native.Nat.{ℕ, ◌+◌, ◌-◌, ◌*◌, ◌%◌, ◌^◌, ◌≤◌}
use native.Mathlib.Nat.{mod-eq_of_lt}
use native.Mathlib.Omega.{arith}
use Rattle.floats.specs.Promises.{NearestRoot}
use Rattle.floats.proofs.RootPatterns.{raised, put_together}
use Rattle.floats.proofs.root.root_bits.Goals as goal
use Rattle.floats.proofs.root.root_bits.Goals.{Start}

abbrev up : Start → ℕ
up c = c.args.m * 2 ^ (24 - (c.args.j + 1) % 2)

-- the places that the law asks
places : (m j : ℕ) → m * 2 ^ (24 - (j + 1) % 2) ≡ m * 2 ^ (23 + j % 2)
places m j = ap (λ (p : ℕ). m * 2 ^ p) (same j)
  where
    same : (j : ℕ) → 24 - (j + 1) % 2 ≡ 23 + j % 2
    same j = omega arith

range : (c : Start) → (2 ^ 46 ≤ up c) × (up c ≤ 2 ^ 48 - 2 ^ 24)
range c = rw (places c.args.m c.args.j) (raised c.args.m (c.args.j % 2) (omega arith) c.requires.0 c.requires.1)

-- the shift drops nothing
whole : (c : Start) → up c % 2 ^ 64 ≡ up c
whole c = mod-eq_of_lt (omega (arith, (range c).1))

pub nearest_root-q-requires : goal.nearest_root-q-requires
nearest_root-q-requires c =
    let s = (goal.at.nearest_root-q-requires c).Start in
    record { fact_1 = rw (whole s) (range s); fact_2 = c.guess-near.ensures }

pub returns : goal.returns
returns c =
    let s = (goal.at.returns c).Start in
    put_together s.args.m s.args.j c.nearest_root-q.result s.requires.0 s.requires.1 s.requires.2 (subst (λ (n : ℕ). NearestRoot n c.nearest_root-q.result) (whole s ∙ places s.args.m s.args.j) c.nearest_root-q.ensures)
