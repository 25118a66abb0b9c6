-- The contract of the block run leaves no cell open: two calls with the same arguments and buffers end with the same buffers and the
-- same answer. Assumes nothing.
use mathlib.Core.Path.{◌≡◌, refl, sym, ◌∙◌, ap, subst}
use mathlib.Core.Bool.{cond}
use Prim.Native.Nat.{ℕ, ◌<◌}
use native.Mathlib.Decide.{ℕ_discrete}
use native.Mathlib.Omega.{arith}
use lib.Dec.{eqb}
use lib.Ieee.{nan}
use Rattle.grid.proofs.CellLaws.{same_columns, same_blocks}
use Rattle.grid.proofs.EachLaws.{each_unique}
use Rattle.share.specs.Share.{Buffers, Columns, columns_of}
use Rattle.block.specs.declared.refusal.WriteLengths.{WriteLengths}
use Rattle.block.specs.Call.{Call, Meets, write_lengths, refusal_of, lanes_of}
use Rattle.block.proofs.RefusalLaws.{call_lanes}

-- buffers of one length with the same columns are the same
module _ (n : ℕ) (some : 0 < n) (x y : Buffers) (size : write_lengths x ≡ write_lengths y)
    (same : (l : ℕ) → l < n → columns_of n x l ≡ columns_of n y l) where
  long : (type_size : WriteLengths → ℕ) → type_size (write_lengths x) ≡ type_size (write_lengths y)
  long type_size = ap type_size size

  seen : {A : Type 0} (view : Columns → A) (l : ℕ) → l < n → view (columns_of n x l) ≡ view (columns_of n y l)
  seen view l h = ap view (same l h)

  pub buffers_same : x ≡ y
  unfolding columns_of
  buffers_same j =
      record {
        output = same_columns nan n x.output y.output some (long (λ (k : WriteLengths). k.output)) (seen (λ (v : Columns). v.output)) j;
        work = same_columns nan n x.work y.work some (long (λ (k : WriteLengths). k.work)) (seen (λ (v : Columns). v.work)) j;
        pairs = same_columns nan n x.pairs y.pairs some (long (λ (k : WriteLengths). k.pairs)) (seen (λ (v : Columns). v.pairs)) j;
        fm = same_columns nan n x.fm y.fm some (long (λ (k : WriteLengths). k.fm)) (seen (λ (v : Columns). v.fm)) j;
        last = same_columns nan n x.last y.last some (long (λ (k : WriteLengths). k.last)) (seen (λ (v : Columns). v.last)) j;
        dec = same_blocks nan 24 n x.dec y.dec (omega arith) some (long (λ (k : WriteLengths). k.dec)) (seen (λ (v : Columns). v.dec)) j;
      }

-- two calls that are asked the same
pub record Asked (c d : Call) : Type 0 where
  pub settings : d.settings ≡ c.settings
  pub range : d.range ≡ c.range
  pub active : d.active ≡ c.active
  pub coefs : d.coefs ≡ c.coefs
  pub numbers : d.numbers ≡ c.numbers
  pub lent : d.lent ≡ c.lent
  pub before : d.before ≡ c.before

-- the first call with the buffers and the answer that the second ends with
abbrev pub ended : Call → Call → Call
ended c d =
    record {
      settings = c.settings;
      range = c.range;
      active = c.active;
      coefs = c.coefs;
      numbers = c.numbers;
      lent = c.lent;
      before = c.before;
      after = d.after;
      answer = d.answer;
    }

-- what holds of the second holds of that
pub as_asked : (c d : Call) → Asked c d → (P : Call → Type 0) → P d → P (ended c d)
as_asked c d asked P =
    subst P
    (λ j. record {
      settings = asked.settings j;
      range = asked.range j;
      active = asked.active j;
      coefs = asked.coefs j;
      numbers = asked.numbers j;
      lent = asked.lent j;
      before = asked.before j;
      after = d.after;
      answer = d.answer;
    })

module _ (c d : Call) (asked : Asked c d) (one : Meets c) (did : Meets d) where
  two : Meets (ended c d)
  two = as_asked c d asked Meets did

  same_number : refusal_of (ended c d) ≡ refusal_of c
  unfolding refusal_of
  same_number = refl

  pub same_after : c.after ≡ d.after
  same_after = go (ℕ_discrete (refusal_of c) 0)
    where
      go : Dec (refusal_of c ≡ 0) → c.after ≡ d.after
      go (yes ok) =
          buffers_same (lanes_of c) (call_lanes c ok) c.after d.after
          (one.sizes ∙ sym two.sizes) (each_unique (one.lanes ok) (two.lanes (same_number ∙ ok)))
      go (no bad) = one.refused bad ∙ sym (two.refused (λ e. bad (sym same_number ∙ e)))

  pub same_answer : c.answer ≡ d.answer
  same_answer j =
      record {
        number = (one.number ∙ sym same_number ∙ sym two.number) j;
        frames = (one.frames ∙ ap (λ (k : ℕ). cond (eqb k 0) c.range.count 0) (sym same_number) ∙ sym two.frames) j;
      }
