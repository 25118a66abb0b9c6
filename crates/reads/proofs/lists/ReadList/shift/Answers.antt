-- `ReadList::shift` meets its contract: one way of the code for each count.
use mathlib.Core.Path.{◌≡◌, ap}
use Prim.Native.Nat.{ℕ, max}
use lib.ListN.{length}
use Rattle.reads.specs.Reads.{move_first}
use Rattle.reads.proofs.Moves.{move_none, move_more, move_all, moved_all}
use borrow.Author.Rules.{rules}
use native.Mathlib.Omega.{arith}
use Rattle.reads.proofs.lists.ReadList.shift.Goals as goal
use Rattle.reads.proofs.lists.ReadList.shift.Goals.{Start}

long : (s : Start) → length s.args.self.word ≡ 4
long s = search rules

counted : (s : Start) (k : ℕ) → k ≡ max s.args.self.count 1 → move_first s.args.offset k s.args.self.word ≡ move_first s.args.offset (max s.args.self.count 1) s.args.self.word
counted s k e = ap (λ (n : ℕ). move_first s.args.offset n s.args.self.word) e

-- `search` finds each sum's equation, and the entry, by their types
pub returns-then-n-lt2 : goal.returns-then-n-lt2
returns-then-n-lt2 c =
    let four = long (search) in
    moved_all _ _ 1 _
    (move_more _ _ _ _ _ (omega arith) (search) (move_none _ _)) (counted (search) _ (omega arith))

pub returns-then-n-lt3 : goal.returns-then-n-lt3
returns-then-n-lt3 c =
    let four = long (search) in
    moved_all _ _ 2 _
    (move_more _ _ _ _ _ (omega arith) (search)
    (move_more _ _ _ _ _ (omega arith) (search) (move_none _ _))) (counted (search) _ (omega arith))

pub returns-then-n-lt4 : goal.returns-then-n-lt4
returns-then-n-lt4 c =
    let four = long (search) in
    moved_all _ _ 3 _
    (move_more _ _ _ _ _ (omega arith) (search)
    (move_more _ _ _ _ _ (omega arith) (search)
    (move_more _ _ _ _ _ (omega arith) (search) (move_none _ _)))) (counted (search) _ (omega arith))

pub returns : goal.returns
returns c =
    let four = long (search) in
    moved_all _ _ 4 _
    (move_more _ _ _ _ _ (omega arith) (search)
    (move_more _ _ _ _ _ (omega arith) (search)
    (move_more _ _ _ _ _ (omega arith) (search)
    (move_more _ _ _ _ _ (omega arith) (search) (move_none _ _))))) (move_all _ 4 _ _ (omega arith) (omega arith))
