-- What is done to each lane of an interval, and to no other. A lane's view is of any type X: a column, or a record of columns
-- and blocks of several buffers. Definitions only.
use Rattle.std.specs.Prelude.{◌≡◌, cond, List, [], ◌∷◌, ℕ, suc, ◌+◌, ◌≤◌, ◌<◌, eqb}

-- of n lanes with the views w before and w' after, F is done to the lanes from ≤ l < to, and the others' views are as before.
-- F may go by the lane, as where it reads a buffer that stays
pub record Each {X : Type 0} (n from to : ℕ) (F : ℕ → X → X) (w w' : ℕ → X) : Type 0 where
  pub inside : (l : ℕ) → l < n → from ≤ l → l < to → w' l ≡ F l (w l)
  pub outside : (l : ℕ) → l < n → (from ≤ l → l < to → ⊥) → w' l ≡ w l

-- ---- a call for one lane at a time

-- how often m stands in a list
unfoldable pub times : ℕ → List ℕ → ℕ
times m [] = 0
times m (l ∷ ls) = cond (eqb m l) (suc (times m ls)) (times m ls)

-- the numbers from ≤ m < to, once each and in any order
pub record Once (from to : ℕ) (ls : List ℕ) : Type 0 where
  pub inside : (m : ℕ) → from ≤ m → m < to → times m ls ≡ 1
  pub outside : (m : ℕ) → (from ≤ m → m < to → ⊥) → times m ls ≡ 0

-- calls that do F to one lane each, one after another, for the lanes of a list
pub data Calls {X : Type 0} (n : ℕ) (F : ℕ → X → X) : List ℕ → (ℕ → X) → (ℕ → X) → Type 0 where
  no_call : {w : ℕ → X} → Calls n F [] w w
  call : {l : ℕ} {ls : List ℕ} {w w' w'' : ℕ → X} → Each n l (l + 1) F w w' → Calls n F ls w' w'' → Calls n F (l ∷ ls) w w''
