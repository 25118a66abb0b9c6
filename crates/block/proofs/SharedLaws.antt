-- The laws of a loop over lanes, each of which has its share: none, and one more. Assumes nothing.
use mathlib.Core.Path.{◌≡◌, refl, ◌∙◌, subst}
use Prim.Native.Nat.{ℕ, ◌+◌, ◌≤◌}
use native.Mathlib.Omega.{arith}
use Rattle.grid.proofs.EachLaws.{each_none, each_join}
use Rattle.shaper.specs.declared.settings.Settings.{Settings}
use Rattle.shaper.specs.declared.settings.Range.{Range}
use Rattle.render.specs.declared.state.BlockSettings.{BlockSettings}
use Rattle.render.specs.Lane.{Lent}
use Rattle.share.specs.Share.{Buffers}
use Rattle.share.specs.Promises.{Writable, Sizes, Shared}
use Rattle.block.specs.Call.{write_lengths}

-- ---- lengths

pub sizes_none : (w : Buffers) → Sizes w w
sizes_none w = record { output = refl; work = refl; pairs = refl; fm = refl; last = refl; dec = refl }

pub sizes_more : {w w' w'' : Buffers} → Sizes w w' → Sizes w' w'' → Sizes w w''
sizes_more x y =
    record {
      output = y.output ∙ x.output;
      work = y.work ∙ x.work;
      pairs = y.pairs ∙ x.pairs;
      fm = y.fm ∙ x.fm;
      last = y.last ∙ x.last;
      dec = y.dec ∙ x.dec;
    }

pub sizes_lengths : {w w' : Buffers} → Sizes w w' → write_lengths w' ≡ write_lengths w
sizes_lengths x j =
    record { output = x.output j; work = x.work j; pairs = x.pairs j; fm = x.fm j; last = x.last j; dec = x.dec j }

-- what is long enough stays so
pub writable_kept : {s : Settings} {r : Range} {w w' : Buffers} → Writable s r w → Sizes w w' → Writable s r w'
writable_kept h x =
    record {
      output = rw x.output h.output;
      work = rw x.work h.work;
      pairs = rw x.pairs h.pairs;
      fm = rw x.fm h.fm;
      last = rw x.last h.last;
      dec = rw x.dec h.dec;
    }

-- ---- shares

module _ {b : BlockSettings} {r : Range} {l : Lent} where
  pub shared_none : (lane : ℕ) (w : Buffers) → Shared b r l lane lane w w
  shared_none lane w = record { lanes = each_none (omega arith); sizes = sizes_none w }

  pub shared_more : {from lane : ℕ} {w w' w'' : Buffers} → from ≤ lane → Shared b r l from lane w w' → Shared b r l lane (lane + 1) w' w''
      → Shared b r l from (lane + 1) w w''
  shared_more h was did =
      record { lanes = each_join h (omega arith) was.lanes did.lanes; sizes = sizes_more was.sizes did.sizes }

-- by settings that are the same
pub shared_by : {b b' : BlockSettings} {r : Range} {l : Lent} {from to : ℕ} {w w' : Buffers} → b' ≡ b → Shared b' r l from to w w'
    → Shared b r l from to w w'
shared_by {r = r} {l = l} {from = from} {to = to} {w = w} {w' = w'} e = subst (λ (x : BlockSettings). Shared x r l from to w w') e
