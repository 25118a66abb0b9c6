-- The laws of a run over cells in place: at the start, with one cell more, and at the end. Assumes nothing.
use mathlib.Core.Path.{◌≡◌, refl, sym, ◌∙◌}
use mathlib.Core.List.{List}
use Prim.Native.Nat.{ℕ, ◌+◌, ◌≤◌, ◌<◌}
use native.Mathlib.Decide.{ℕ_discrete}
use native.Mathlib.Omega.{arith}
use lib.ListN.{length, get_or, set, length-set}
use lib.Seq.{get_or-set_same, get_or-set_other, ext_get_or}
use Rattle.grid.specs.Functions.{table}
use Rattle.grid.specs.Runs.{Ran}
use Rattle.grid.proofs.TableLaws.{length_table, get_or-table}

module _ {A : Type 0} {d : A} where
  pub ran_none : (answer : ℕ → A) (xs : List A) → Ran d answer xs xs 0
  ran_none answer xs = record { long = refl; made = λ k h. absurd (omega arith); kept = λ k h. refl }

  pub ran_more : (answer : ℕ → A) (before now : List A) (i : ℕ) (v : A) → i < length now → Ran d answer before now i → v ≡ answer i → Ran d answer before (set now i v) (i + 1)
  ran_more answer before now i v h r e =
      record {
        long = rw length-set r.long;
        made = λ k l. go k l (ℕ_discrete k i);
        kept = λ k l. get_or-set_other now i k v d (λ (q : k ≡ i). omega arith) ∙ r.kept k (omega arith);
      }
    where
      go : (k : ℕ) → k < i + 1 → Dec (k ≡ i) → get_or (set now i v) k d ≡ answer k
      go k l (yes q) = rw q (get_or-set_same now i v d h ∙ e)
      go k l (no q) = get_or-set_other now i k v d q ∙ r.made k (omega arith)

  -- a run over all cells, and what may stand past them, leaves nothing of them
  pub ran_whole : (answer : ℕ → A) (before after : List A) (r : ℕ) → Ran d answer before after r → length before ≤ r → after ≡ table (length before) answer
  ran_whole answer before after r ran h =
      ext_get_or d _ _ (ran.long ∙ sym (length_table (length before) answer))
      (λ i l. let low : i < length before = omega (arith, ran.long) in ran.made i (omega arith) ∙ sym (get_or-table (length before) answer i d low))

  pub ran_done : (answer : ℕ → A) (before after : List A) → Ran d answer before after (length before) → after ≡ table (length before) answer
  ran_done answer before after r = ran_whole answer before after (length before) r (omega arith)
