-- The laws of what is done to each lane of an interval. A run over the first k lanes promises `Each n 0 k F`, and a call for one lane
-- `Each n l (l + 1) F`: a loop over lanes keeps `Each n 0 l F`, from `each_none` by `each_join`. The two cases of
-- `Each` are read by its fields, and a record literal makes it from them. Assumes nothing.
use mathlib.Core.Path.{◌≡◌, refl, sym, ◌∙◌, ap}
use mathlib.Core.List.{List}
use Prim.Native.Nat.{ℕ, ◌+◌, ◌*◌, ◌≤◌, ◌<◌}
use native.Mathlib.Decide.{dec_lt}
use native.Mathlib.Omega.{arith}
use lib.ListN.{length, set}
use Rattle.grid.specs.Functions.{upd}
use Rattle.grid.specs.Cells.{columns}
use Rattle.grid.specs.Lanes.{Each}
use Rattle.grid.proofs.CellLaws.{col_set, col_set_other}

module _ {X : Type 0} {n : ℕ} {F : ℕ → X → X} where
  -- no lane
  pub each_none : {a b : ℕ} {w : ℕ → X} → b ≤ a → Each n a b F w w
  each_none h = record { inside = λ l hl lo hi. absurd (omega arith); outside = λ l hl free. refl }

  -- a lane below the interval, and one above
  pub each_below : {a b : ℕ} {w w' : ℕ → X} → Each n a b F w w' → (l : ℕ) → l < n → l < a → w' l ≡ w l
  each_below did l hl h = did.outside l hl (λ lo hi. omega arith)

  pub each_above : {a b : ℕ} {w w' : ℕ → X} → Each n a b F w w' → (l : ℕ) → l < n → b ≤ l → w' l ≡ w l
  each_above did l hl h = did.outside l hl (λ lo hi. omega arith)

  -- ---- one lane

  pub each_one : {l : ℕ} {w w' : ℕ → X} → w' l ≡ F l (w l) → ((m : ℕ) → m < n → (m ≡ l → ⊥) → w' m ≡ w m) → Each n l (l + 1) F w w'
  each_one {l} {w} {w'} here others =
      record {
        inside = λ m hm lo hi. let e : m ≡ l = omega arith in rw e here;
        outside = λ m hm free. others m hm (λ e. free (omega arith) (omega arith));
      }

  pub one_lane : {l : ℕ} {w w' : ℕ → X} → Each n l (l + 1) F w w' → l < n → w' l ≡ F l (w l)
  one_lane {l} did hl = did.inside l hl (omega arith) (omega arith)

  pub one_others : {l : ℕ} {w w' : ℕ → X} → Each n l (l + 1) F w w' → (m : ℕ) → m < n → (m ≡ l → ⊥) → w' m ≡ w m
  one_others did m hm ne = did.outside m hm (λ lo hi. ne (omega arith))

  -- ---- intervals side by side

  pub each_join : {a b c : ℕ} {w w' w'' : ℕ → X} → a ≤ b → b ≤ c → Each n a b F w w' → Each n b c F w' w'' → Each n a c F w w''
  each_join {a} {b} {c} {w} {w'} {w''} hab hbc first second =
      record {
        inside = λ l hl lo hi. go l hl lo hi (dec_lt l b);
        outside = λ l hl free.
            second.outside l hl (λ lo hi. free (omega arith) hi) ∙ first.outside l hl (λ lo hi. free lo (omega arith));
      }
    where
      go : (l : ℕ) → l < n → a ≤ l → l < c → Dec (l < b) → w'' l ≡ F l (w l)
      go l hl lo hi (yes h) = each_below second l hl h ∙ first.inside l hl lo h
      go l hl lo hi (no h) = second.inside l hl (omega arith) hi ∙ ap (F l) (each_above first l hl (omega arith))

  -- ---- uniqueness: F leaves no lane's view open

  pub each_unique : {a b : ℕ} {w w' w'' : ℕ → X} → Each n a b F w w' → Each n a b F w w'' → (l : ℕ) → l < n → w' l ≡ w'' l
  each_unique {a} {b} {w} {w'} {w''} one two l hl = go (dec_lt l a) (dec_lt l b)
    where
      go : Dec (l < a) → Dec (l < b) → w' l ≡ w'' l
      go (yes h) m = each_below one l hl h ∙ sym (each_below two l hl h)
      go (no h) (yes m) = one.inside l hl (omega arith) m ∙ sym (two.inside l hl (omega arith) m)
      go (no h) (no m) = each_above one l hl (omega arith) ∙ sym (each_above two l hl (omega arith))

-- ---- what is done, changed

-- nothing is done
pub each_id : {X : Type 0} {n a b : ℕ} {w : ℕ → X} → Each n a b (λ l v. v) w w
each_id = record { inside = λ l hl lo hi. refl; outside = λ l hl free. refl }

-- one thing after another
pub each_then : {X : Type 0} {n a b : ℕ} {F G : ℕ → X → X} {w w' w'' : ℕ → X} → Each n a b F w w' → Each n a b G w' w''
    → Each n a b (λ l v. G l (F l v)) w w''
each_then {G = G} first second =
    record {
      inside = λ l hl lo hi. second.inside l hl lo hi ∙ ap (G l) (first.inside l hl lo hi);
      outside = λ l hl free. second.outside l hl free ∙ first.outside l hl free;
    }

-- G does to the lanes inside what F does
pub each_same : {X : Type 0} {n a b : ℕ} {F G : ℕ → X → X} {w w' : ℕ → X} → Each n a b F w w'
    → ((l : ℕ) → l < n → a ≤ l → l < b → F l (w l) ≡ G l (w l)) → Each n a b G w w'
each_same did e =
    record {
      inside = λ l hl lo hi. did.inside l hl lo hi ∙ e l hl lo hi;
      outside = λ l hl free. did.outside l hl free;
    }

-- a store is done to one lane
pub each_set : {A : Type 0} (d : A) (n l : ℕ) (xs : List A) (r : ℕ) (v : A) → l < n → r * n + l < length xs
    → Each n l (l + 1) (λ _ f. upd f r v) (columns d n xs) (columns d n (set xs (r * n + l) v))
each_set d n l xs r v hl h =
    each_one (col_set d n l xs r v hl h) (λ m hm ne. col_set_other d n m xs l r v hm hl ne)
