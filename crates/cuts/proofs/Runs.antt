-- Demand 3 is about runs that there are: all arguments that pass the table make a Run A; Run A by itself is a Run B; with no host frame
-- the empty list is one; a refused call, lent the lane's state or not, may stand in front; and however a block is cut, the calls for its
-- parts, one after another in the same buffers, are one. Assumes nothing.
use mathlib.Core.Path.{◌≡◌, refl, sym, ◌∙◌, ap, subst, subst₂}
use mathlib.Core.List.{List, [], ◌∷◌, ◌++◌}
use Prim.Native.Nat.{ℕ, zero, suc, ◌+◌, ◌-◌, ◌*◌, ◌<◌, ◌≤◌}
use native.Mathlib.Nat.{zero-add, add-zero, add_assoc, mul-le-mul_right}
use native.Mathlib.Omega.{arith}
use lib.ListN.{get_or, length}
use lib.Ieee.{Float, nan}
use Rattle.grid.specs.Cells.{column}
use Rattle.grid.proofs.CellLaws.{col_at, length_column, get_or-column}
use Rattle.limits.proofs.LineLaws.{good_range, in_range}
use Rattle.halfband.specs.Ranges.{total}
use Rattle.shaper.specs.declared.settings.Range.{Range}
use Rattle.render.specs.declared.state.BlockSettings.{BlockSettings}
use Rattle.render.specs.Lane.{Lent}
use Rattle.share.specs.Share.{Buffers}
use Rattle.share.specs.Promises.{Writable}
use Rattle.block.specs.Refusal.{block_refusal}
use Rattle.block.specs.Call.{Call, Meets, call_numbers, read_lengths, write_lengths, refusal_of, lanes_of}
use Rattle.block.proofs.RefusalLaws.{Passed, passes, writable, all_long, call_passed}
use Rattle.cuts.specs.Cuts.{state_of, entering, leaving, Which, buffer, Carried, kept_back, lent_at, Around, RunA, RunB, end, refuse, accept}
use Rattle.cuts.proofs.Made.{made, met_by, made_sizes}

abbrev pub range : ℕ → ℕ → Range
range at count = record { first = at; count = count }

-- ---- Run A

-- any arguments that pass the table, for the whole block, make one
pub whole : (settings : BlockSettings) (active coefs numbers : ℕ) (lent : Lent) (before : Buffers) (lane : ℕ)
    → block_refusal (call_numbers settings (range 0 settings.shaper.frames) active) (read_lengths coefs numbers lent) (write_lengths before) ≡ 0
    → lane < active → RunA (made settings (range 0 settings.shaper.frames) active coefs numbers lent before) lane
unfolding refusal_of
whole settings active coefs numbers lent before lane ok on =
    record {
      meets = met_by settings (range 0 settings.shaper.frames) active coefs numbers lent before;
      accepted = ok;
      active = on;
      first = refl;
      count = refl;
    }

-- ---- Run B

pub alone : (a : Call) (lane : ℕ) → RunA a lane → RunB a lane 0 (entering a lane) (a ∷ []) (leaving a lane)
alone a lane w =
    accept a w.meets w.accepted (record { settings = refl; inputs = refl; active = w.active }) w.first refl
    (end (zero-add _ ∙ w.count) refl)

pub none : (a : Call) (lane : ℕ) → a.settings.shaper.frames ≡ 0 → RunB a lane 0 (entering a lane) [] (entering a lane)
none a lane e = end (sym e) refl

-- a refused call in front, with the lane's state kept back
pub refused_first : (a : Call) (lane at : ℕ) (s e : List Float) (cs : List Call) (c : Call) → Meets c → (refusal_of c ≡ 0 → ⊥)
    → RunB a lane at s cs e → RunB a lane at s (c ∷ cs) e
refused_first a lane at s e cs c m bad run = refuse c m bad (record { size = refl; cells = λ i h. kept_back refl }) run

-- cells that lie in a column of a written buffer
around_column : (c : Call) (n lane rows : ℕ) (w : Which)
    → Around c (column nan n lane rows (buffer w c.before)) (column nan n lane rows (buffer w c.after))
around_column c n lane rows w =
    record {
      size = length_column nan n lane rows _ ∙ sym (length_column nan n lane rows _);
      cells = λ i h. lent_at w (i * n + lane) (at c.before i (rw length_column at h)) (at c.after i (rw length_column at h));
    }
  where
    at : (b : Buffers) (i : ℕ) → i < rows → get_or (buffer w b) (i * n + lane) nan ≡ get_or (column nan n lane rows (buffer w b)) i nan
    at b i h = sym (get_or-column nan n lane rows (buffer w b) i h ∙ col_at nan n lane (buffer w b) i)

-- and of columns one after another
around_both : (c : Call) (xs ys us vs : List Float) → Around c xs ys → Around c us vs → Around c (xs ++ us) (ys ++ vs)
around_both c [] [] us vs first next = next
around_both c [] (y ∷ ys) us vs first next = absurd (omega (arith, first.size))
around_both c (x ∷ xs) [] us vs first next = absurd (omega (arith, first.size))
around_both c (x ∷ xs) (y ∷ ys) us vs first next =
    let one : length ys ≡ length xs = omega (arith, first.size) in
    let more = around_both c xs ys us vs (record { size = one; cells = λ i h. first.cells (suc i) (omega arith) }) next in
    record { size = ap suc more.size; cells = go more }
  where
    go : Around c (xs ++ us) (ys ++ vs) → (i : ℕ) → i < length (x ∷ (xs ++ us))
        → Carried c (get_or (x ∷ (xs ++ us)) i nan) (get_or (y ∷ (ys ++ vs)) i nan)
    go more zero h = first.cells zero (omega arith)
    go more (suc i) h = more.cells i (omega arith)

-- a call that is lent a lane's whole state, in the places of any of n lanes
pub lent_whole : (c : Call) (n lane : ℕ) → Around c (state_of n lane c.before) (state_of n lane c.after)
lent_whole c n lane =
    around_both c _ _ _ _
    (around_both c _ _ _ _
    (around_both c _ _ _ _ (around_column c n lane 4 Which.pairs) (around_column c n lane 2 Which.fm))
    (around_column c n lane 1 Which.last))
    (around_column c n lane 72 Which.dec)

-- a refused call in front that is lent the lane's state, in its own layout or any other
pub refused_lent : (a : Call) (lane at : ℕ) (s e : List Float) (cs : List Call) (c : Call) (n place : ℕ) → Meets c → (refusal_of c ≡ 0 → ⊥)
    → state_of n place c.before ≡ s → RunB a lane at s cs e → RunB a lane at s (c ∷ cs) e
refused_lent a lane at s e cs c n place m bad lends run = refuse c m bad (subst₂ (Around c) lends back (lent_whole c n place)) run
  where
    back : state_of n place c.after ≡ s
    back = ap (state_of n place) (m.refused bad) ∙ lends

-- ---- parts

-- Run A's call for `count` host frames from `at` on, in other buffers
abbrev pub part : Call → ℕ → ℕ → Buffers → Call
part a at count before = made a.settings (range at count) a.active a.coefs a.numbers a.lent before

-- the first m host frames, and those after them in the buffers that they leave
abbrev pub first_part : Call → ℕ → Call
first_part a m = part a 0 m a.before

abbrev pub second_part : Call → ℕ → Call
second_part a m = part a m (a.settings.shaper.frames - m) (first_part a m).after

-- parts one after another, each in the buffers that the one before left
unfoldable pub parts : Call → ℕ → Buffers → List ℕ → List Call
parts a at before [] = []
parts a at before (k ∷ ks) = part a at k before ∷ parts a (at + k) (part a at k before).after ks

-- and what they leave
unfoldable pub parts_leave : Call → ℕ → Buffers → List ℕ → Buffers
parts_leave a at before [] = before
parts_leave a at before (k ∷ ks) = parts_leave a (at + k) (part a at k before).after ks

module _ (a : Call) (lane : ℕ) (w : RunA a lane) where
  abbrev F : ℕ
  F = a.settings.shaper.frames

  lines : Passed (call_numbers a.settings a.range a.active) (read_lengths a.coefs a.numbers a.lent) (write_lengths a.before)
  lines = call_passed a w.accepted

  -- what Run A is lent to write is long enough for each part
  part_held : (at k : ℕ) → at + k ≤ F → Writable a.settings.shaper (range at k) a.before
  part_held at k fit =
      let h = writable a.settings a.range a.active a.before lines.written in
      let rows : k * a.settings.shaper.factor ≤ F * a.settings.shaper.factor = mul-le-mul_right _ (omega arith) in
      let work : F * a.settings.shaper.factor * lanes_of a ≤ (write_lengths a.before).work =
      subst (λ (c : ℕ). c * a.settings.shaper.factor * lanes_of a ≤ (write_lengths a.before).work) w.count h.work in
      record {
        output = h.output;
        work = omega (arith, mul-le-mul_right (lanes_of a) rows);
        pairs = h.pairs;
        fm = h.fm;
        last = h.last;
        dec = h.dec;
      }

  pub part_accepted : (at k : ℕ) (before : Buffers) → at + k ≤ F → write_lengths before ≡ write_lengths a.before
      → refusal_of (part a at k before) ≡ 0
  unfolding refusal_of
  part_accepted at k before fit size =
      rw size
      (passes (call_numbers a.settings (range at k) a.active) _ _
      (record {
        modes = lines.modes;
        factors = lines.factors;
        lanes = lines.lanes;
        ranges = in_range F at k (good_range F a.range.first a.range.count lines.ranges).0 fit;
        rates = lines.rates;
        counts = lines.counts;
        read = lines.read;
        written = all_long a.settings (range at k) a.active a.before (part_held at k fit);
      }))

  pub in_parts_from : (at : ℕ) (before : Buffers) (ks : List ℕ) → at + total ks ≡ F → write_lengths before ≡ write_lengths a.before
      → RunB a lane at (state_of (lanes_of a) lane before) (parts a at before ks) (state_of (lanes_of a) lane (parts_leave a at before ks))
  unfolding parts parts_leave total
  in_parts_from at before [] fit size = end (sym (add-zero at) ∙ fit) refl
  in_parts_from at before (k ∷ ks) fit size =
      accept (part a at k before) (met_by _ _ _ _ _ _ before) (part_accepted at k before (omega arith) size)
      (record { settings = refl; inputs = refl; active = w.active }) refl refl
      (in_parts_from (at + k) (part a at k before).after ks (add_assoc at k (total ks) ∙ fit) (made_sizes _ _ _ _ _ _ before ∙ size))

  -- a block in any parts
  pub in_parts : (ks : List ℕ) → total ks ≡ F
      → RunB a lane 0 (entering a lane) (parts a 0 a.before ks) (state_of (lanes_of a) lane (parts_leave a 0 a.before ks))
  in_parts ks fit = in_parts_from 0 a.before ks (zero-add _ ∙ fit) refl

  -- and in two
  pub in_two : (m : ℕ) → m ≤ F → RunB a lane 0 (entering a lane) (first_part a m ∷ second_part a m ∷ [])
      (leaving (second_part a m) lane)
  unfolding parts parts_leave total
  in_two m h = rw zero-add at (in_parts (m ∷ (F - m) ∷ []) (omega arith))
