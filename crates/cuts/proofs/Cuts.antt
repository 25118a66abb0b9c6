-- Demand 3, from what the contract of the block run says of each call. Assumes nothing.
use mathlib.Core.Path.{◌≡◌, sym, ◌∙◌, ap, ap₂, subst, fun_ext}
use mathlib.Core.List.{List, [], ◌∷◌, ◌++◌}
use Prim.Native.Nat.{ℕ, zero, suc, ◌+◌, ◌-◌, ◌≤◌}
use native.Mathlib.Nat.{zero-add, suc-add, add_assoc}
use native.Mathlib.Omega.{arith}
use lib.Ieee.{Float}
use Rattle.grid.specs.Functions.{table}
use Rattle.render.specs.declared.state.BlockSettings.{BlockSettings}
use Rattle.render.specs.Lane.{Inputs}
use Rattle.block.specs.Call.{Call, Meets, refusal_of, lanes_of, inputs}
use Rattle.cuts.specs.Cuts.{entering, leaving, Alike, RunB, end, refuse, accept, rows_of, output_of, Untouched, Outside, Returned, AllOf, Demand3}
use Rattle.cuts.proofs.Accepted.{Good}
use Rattle.cuts.proofs.State.{columns_end, state_listed}
use Rattle.cuts.proofs.Share.{state_after, output_at, state_none, state_add, output_add}
use Rattle.cuts.proofs.Calls.{call_good, call_within, call_state, call_rows, refused_rows, refused_state, untouched, outside}
use Rattle.cuts.proofs.Runs.{alone}

table_add : {A : Type 0} (m n : ℕ) (f : ℕ → A) → table (m + n) f ≡ table m f ++ table n (λ i. f (m + i))
unfolding table
table_add zero n f = rw zero-add (ap (table n) (fun_ext (λ i. ap f (sym (zero-add i)))))
table_add (suc m) n f =
    rw suc-add
    (ap (λ (l : List _). f zero ∷ l)
    (table_add m n (λ i. f (suc i)) ∙ ap (λ (g : ℕ → _). table m (λ i. f (suc i)) ++ table n g) (fun_ext (λ i. ap f (sym (suc-add m i))))))

-- ---- the induction along Run B

module _ (a : Call) (lane : ℕ) (good : Good a.settings) where
  -- the lane's output at each host frame of the block, and its state there
  abbrev output : ℕ → Float
  output = output_at a.settings (inputs a lane) 0 (entering a lane)

  abbrev state : ℕ → List Float
  state = state_after a.settings (inputs a lane) 0 (entering a lane)

  start : entering a lane ≡ state 0
  start =
      rw (state_listed (lanes_of a) lane a.before)
      (sym (state_none a.settings good (inputs a lane) 0 _ _ (columns_end (lanes_of a) lane a.before)))

  -- an accepted call from host frame `at` and the block's state there
  module _ (c : Call) (m : Meets c) (ok : refusal_of c ≡ 0) (same : Alike a c lane)
      (at : ℕ) (from : c.range.first ≡ at) (lends : entering c lane ≡ state at) where
    next_state : leaving c lane ≡ state (at + c.range.count)
    next_state =
        call_state c ok m lane same.active
        ∙ ap₂ (λ (b : BlockSettings) (i : Inputs). state_after b i c.range.first (entering c lane) c.range.count)
        same.settings same.inputs
        ∙ ap₂ (λ (f : ℕ) (s : List Float). state_after a.settings (inputs a lane) f s c.range.count) (from ∙ sym (zero-add at)) lends
        ∙ sym (state_add a.settings good (inputs a lane) 0 (entering a lane) at c.range.count)

    next_rows : rows_of lane c ≡ table c.range.count (λ k. output (at + k))
    next_rows =
        call_rows c ok m lane same.active
        ∙ ap (table c.range.count) (fun_ext (λ k.
        ap₂ (λ (b : BlockSettings) (i : Inputs). output_at b i c.range.first (entering c lane) k) same.settings same.inputs
        ∙ ap₂ (λ (f : ℕ) (s : List Float). output_at a.settings (inputs a lane) f s k) (from ∙ sym (zero-add at)) lends
        ∙ sym (output_add a.settings good (inputs a lane) 0 (entering a lane) at k)))

  -- Run B from host frame `at` on, `left` frames before the block's end
  rest : (at : ℕ) (s e : List Float) (cs : List Call) (left : ℕ) → at + left ≡ a.settings.shaper.frames
      → s ≡ state at → RunB a lane at s cs e
      → (output_of lane cs ≡ table left (λ k. output (at + k))) × (e ≡ state (at + left))
  unfolding table output_of
  rest at s e cs left fit same (end here done) = (rw none_left, sym done ∙ same ∙ ap state (omega arith))
    where
      none_left : left ≡ 0
      none_left = omega arith
  rest at s e cs left fit same (refuse {t = t} {cs = ds} c m bad around run) =
      let after = rest at t e ds left fit (sym (refused_state c bad m s t around) ∙ same) run in
      (ap (λ (l : List Float). l ++ output_of lane ds) (refused_rows c bad lane) ∙ after.0, after.1)
  rest at s e cs left fit same (accept {cs = ds} c m ok alike from lends run) =
      let k = c.range.count in
      let inside : at + k ≤ a.settings.shaper.frames =
      subst (λ (f : ℕ). f + k ≤ a.settings.shaper.frames) from
      (subst (λ (b : BlockSettings). c.range.first + k ≤ b.shaper.frames) alike.settings (call_within c ok)) in
      let more : k + (left - k) ≡ left = omega arith in
      let after = rest (at + k) (leaving c lane) e ds (left - k) (omega arith) (next_state c m ok alike at from (lends ∙ same)) run in (
        ap₂ ◌++◌ (next_rows c m ok alike at from (lends ∙ same))
            (after.0 ∙ ap (table (left - k)) (fun_ext (λ i. ap output (add_assoc at k i))))
            ∙ sym (table_add k (left - k) (λ i. output (at + i))) ∙ ap (λ (n : ℕ). table n (λ i. output (at + i))) more,
        after.1 ∙ ap state (omega arith),
      )

-- what each call does
each_call : (P : Call → Type 0) → ((c : Call) → Meets c → P c)
    → (a : Call) (lane at : ℕ) (s e : List Float) (cs : List Call) → RunB a lane at s cs e → AllOf P cs
unfolding AllOf
each_call P does a lane at s e cs (end here done) = tt
each_call P does a lane at s e cs (refuse {t = t} {cs = ds} c m bad around run) = (does c m, each_call P does a lane at t e ds run)
each_call P does a lane at s e cs (accept {cs = ds} c m ok alike from lends run) =
    (does c m, each_call P does a lane (at + c.range.count) (leaving c lane) e ds run)

-- Run A is a Run B too, so both are compared with the same function of the lane's state at the start
pub cuts : Demand3
unfolding Demand3 AllOf
cuts a lane cs e whole run =
    let good : Good a.settings = call_good a whole.accepted in
    let from_start = rest a lane good 0 (entering a lane) in
    let F = a.settings.shaper.frames in
    let one = from_start (leaving a lane) (a ∷ []) F (zero-add F) (start a lane good) (alone a lane whole) in
    let many = from_start e cs F (zero-add F) (start a lane good) run in
    record {
      output = many.0 ∙ sym one.0;
      state = many.1 ∙ sym one.1;
      inactive = (untouched a whole.meets, each_call Untouched untouched a lane 0 (entering a lane) e cs run);
      outside = (outside a whole.meets, each_call Outside outside a lane 0 (entering a lane) e cs run);
      returned = (whole.meets.refused, each_call Returned (λ c m. m.refused) a lane 0 (entering a lane) e cs run);
    }
