-- Functions of a number, as a column is one of the row: with some values replaced, as a list, and in blocks. Definitions only.
use Rattle.std.specs.Prelude.{cond, ◌&&◌, List, [], ◌∷◌, ℕ, zero, suc, ◌+◌, ◌-◌, ◌*◌, ltb, leb, eqb}

module _ {A : Type 0} where
  -- f with v at r
  unfoldable pub upd : (ℕ → A) → ℕ → A → ℕ → A
  upd f r v s = cond (eqb s r) v (f s)

  -- g with the values of f below k
  unfoldable pub upto : ℕ → (ℕ → A) → (ℕ → A) → ℕ → A
  upto k f g r = cond (ltb r k) (f r) (g r)

  -- g with the first k values of f from a on: f's value 0 stands at a
  unfoldable pub span : ℕ → ℕ → (ℕ → A) → (ℕ → A) → ℕ → A
  span a k f g r = cond (leb a r && ltb r (a + k)) (f (r - a)) (g r)

  -- the first k values of f as a list
  unfoldable pub table : ℕ → (ℕ → A) → List A
  table zero f = []
  table (suc k) f = f zero ∷ table k (λ i. f (suc i))

  -- f in blocks of h values: value i of block b, and d past a block's end, so that blocks are equal where their h values are
  unfoldable pub blocks : A → ℕ → (ℕ → A) → ℕ → ℕ → A
  blocks d h f b i = cond (ltb i h) (f (h * b + i)) d
