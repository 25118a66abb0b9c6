-- The laws of lines: what is kept of a line that grows, and that a reader sees the text's lines. Assumes nothing.
use mathlib.Core.Path.{◌≡◌, refl, ap}
use mathlib.Core.Bool.{Bool, true, false}
use mathlib.Core.List.{List, [], ◌∷◌, ◌++◌}
use Prim.Native.Nat.{ℕ, zero, suc, ◌<◌}
use native.Mathlib.Omega.{arith}
use lib.Dec.{eqb}
use lib.ListN.{length, take, length-append}
use lib.Seq.{take_all, take-append-le}
use Rattle.text.specs.Lines.{newline, line_length, kept, unless_empty, lines_from, lines_of, Reading, unread, begun, with_byte, lines_by}

-- ---- what is kept of a line and one byte more

pub kept_room : (line : List ℕ) (b : ℕ) → length line < 255 → kept (line ++ (b ∷ [])) ≡ line ++ (b ∷ [])
kept_room line b h = take_all 255 (line ++ (b ∷ [])) (omega (arith, length-append line (b ∷ [])))

pub kept_full : (line : List ℕ) (b : ℕ) → length line ≡ 255 → kept (line ++ (b ∷ [])) ≡ line
kept_full line b h = rw (take-append-le 255 line (b ∷ []) (omega arith)) (take_all 255 line (omega arith))

-- ---- the text's lines

kept_more : (n : ℕ) (line more : List ℕ) → take n (take n line ++ more) ≡ take n (line ++ more)
kept_more zero line more = refl
kept_more (suc n) [] more = refl
kept_more (suc n) (b ∷ line) more = ap (λ (l : List ℕ). b ∷ l) (kept_more n line more)

-- what is kept of a line and one byte more is what is kept of the whole
kept_byte : (line : List ℕ) (b : ℕ) → kept (kept line ++ (b ∷ [])) ≡ kept (line ++ (b ∷ []))
kept_byte line b = kept_more line_length line (b ∷ [])

-- one byte, by whether it ends a line; what follows is the induction's
one_byte : (line : List ℕ) (r : Reading) (b : ℕ) (bs : List ℕ) → begun r ≡ kept line
    → ((l : List ℕ) (q : Reading) → begun q ≡ kept l → lines_by q bs ≡ lines_from l bs)
    → (t : Bool) → eqb b newline ≡ t → lines_by r (b ∷ bs) ≡ lines_from line (b ∷ bs)
unfolding lines_by lines_from with_byte begun
one_byte line r b bs e after true h = rw (h, e, after [] (record { bytes = kept line; ended = true }) refl)
one_byte line r b bs e after false h = rw (h, e, after (line ++ (b ∷ [])) (record { bytes = kept (kept line ++ (b ∷ [])); ended = false }) (kept_byte line b))

-- from any point on: what has begun is what is kept of `line`
lines_by_lem : (line : List ℕ) (r : Reading) → begun r ≡ kept line → (bytes : List ℕ) → lines_by r bytes ≡ lines_from line bytes
unfolding lines_by lines_from
lines_by_lem line r e [] = ap unless_empty e
lines_by_lem line r e (b ∷ bs) = one_byte line r b bs e (λ l q h. lines_by_lem l q h bs) (eqb b newline) refl

pub lines_are : (bytes : List ℕ) → lines_by unread bytes ≡ lines_of bytes
unfolding begun
lines_are bytes = lines_by_lem [] unread refl bytes
