-- `Search::part_within` meets its contract.
use Rattle.std.proofs.Common.{◌≡◌, ℕ, ◌∙◌, rules}
use Rattle.std.specs.List.{position}
use lib.Ieee.{nan}
use Rattle.std.proofs.lemmas.Iterator.{YieldsList-from_slice}
use Rattle.std.proofs.lemmas.Iterator.Search.{position_from_yields_List}
use Prim.Native.Nat.{◌+◌}
use Rattle.wave.specs.Smooth.{drive_of}
use Rattle.levels.specs.Levels.{amount_of, within_of}
use Rattle.levels.proofs.PartLaws.{made_at, part_outputs}
use Rattle.levels.proofs.search.Search.part_within.Goals as goal

pub returns : goal.returns
returns c =
    let a = c.args.self in
    let first : c.position.result ≡ position (within_of a.wanted a.tolerance) c.curve_all.new.xs = position_from_yields_List (within_of a.wanted a.tolerance) _ _ c.position.result c.position.ensures.ran (YieldsList-from_slice c.curve_all.new.xs cc) (λ x b q k. search rules) in
    let drives = λ (i : ℕ). drive_of a.mode (amount_of (c.args.from + i)) in
    first ∙ (rw c.curve_all.ensures (part_outputs _ _ _ _ _ _ c.from_fn-outs.result c.from_fn-outs.ensures.items.long (λ i h. made_at _ drives (λ k y q t. search rules) c.from_fn-outs.ensures.items i h nan)))
