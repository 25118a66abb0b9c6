-- A list that is started, pushed to or moved on has at most four reads. Assumes nothing.
use Prim.Native.Nat.{ℕ, ◌≤◌}
use native.Mathlib.Omega.{arith}
use mathlib.Core.Bool.{Bool, true, false, cond}
use lib.Dec.{T, ltb, ltb→lt}
use lib.Ieee.{Float}
use Rattle.reads.specs.declared.lists.ReadList.{ReadList}
use Rattle.reads.specs.Reads.{start_of, weighted_of, push_of, shift_of, outgoing_of}

-- a record, so that the list stands in its type whole
pub record Few (r : ReadList) : Type 0 where
  pub few : r.count ≤ 4

pub either : {A : Type 0} (P : A → Type 0) (b : Bool) (x y : A) → (T b → P x) → P y → P (cond b x y)
either P true x y p q = p tt
either P false x y p q = q

pub push_few : (r : ReadList) (w : ℕ) (g : Float) → Few r → Few (push_of r w g)
unfolding push_of
push_few r w g h = either Few (ltb r.count 4) _ r (λ t. let l = ltb→lt r.count 4 t in record { few = omega arith }) h

pub weighted_few : (r : ReadList) → Few r → Few (weighted_of r)
unfolding weighted_of
weighted_few r h = record { few = h.few }

pub shift_few : (r : ReadList) (o : ℕ) → Few r → Few (shift_of r o)
unfolding shift_of
shift_few r o h = record { few = h.few }

pub start_few : (w : ℕ) → Few (start_of w)
unfolding start_of
start_few w = record { few = omega arith }

pub outgoing_few : (r : ReadList) → Few r → (outgoing_of r).count ≤ 4
unfolding outgoing_of
outgoing_few r h = go r.weighted
  where
    go : (b : Bool) → cond b r.count 0 ≤ 4
    go true = h.few
    go false = omega arith
