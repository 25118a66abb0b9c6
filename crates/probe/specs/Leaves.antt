-- What the tests' exports answer beyond the leaves themselves. Definitions only.
use Rattle.std.specs.Prelude.{ℕ, cond, List, ltb, eqb, length, get_or, Float}
use Rattle.std.specs.Float.{nan}
use Rattle.floats.specs.F32.{0f}
use Rattle.floats.specs.Exp2.{exp2_of}
use Rattle.lanes.specs.Lane.{any_of}
use Rattle.lanes.specs.Maths.{tanh_of, exp_of, ln_cosh}
use Rattle.lanes.specs.Word.{lookup_of}

abbrev pub any_word : Float → ℕ
any_word x = cond (any_of x) 1 0

unfoldable pub lookup_or_zero : List Float → Float → Float
lookup_or_zero table x = cond (ltb (length table) 1025) 0f (lookup_of table x)

unfoldable pub powers_leaf : ℕ → Float → Float
powers_leaf leaf x = cond (eqb leaf 0) (exp2_of x) (cond (eqb leaf 1) (tanh_of x) (cond (eqb leaf 2) (exp_of x) (cond (eqb leaf 3) (ln_cosh x) x)))

-- the leaf at the k-th float
abbrev pub powers_leaf_at : ℕ → List Float → ℕ → Float
powers_leaf_at leaf xs k = powers_leaf leaf (get_or xs k nan)
