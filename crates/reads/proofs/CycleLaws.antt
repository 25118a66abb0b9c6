-- What the reading of the cycle looks at, what it leaves as it is, and what it makes of infinities and NaN. Assumes nothing.
use mathlib.Core.Path.{◌≡◌, refl, sym, ap, ◌∙◌, subst}
use mathlib.Core.List.{List}
use mathlib.Core.Bool.{Bool, true, false, not, cond}
use Prim.Native.Nat.{ℕ, zero, suc, ◌+◌, ◌*◌, ◌/◌, ◌%◌, ◌^◌, ◌<◌}
use native.Mathlib.Nat.{lt_irrefl, lt_of_lt_of_le, le_of_eq, zero-lt-suc, zero-mul, mul-zero, mul-pos, le_refl, sub_self}
use native.Mathlib.Omega.{arith}
use lib.IntN.{ℤ}
use lib.Dec.{T, eqb, lit<}
use lib.Pow.{pow_pos}
use lib.Seq.{get_or-take}
use lib.ListN.{get_or, take}
use lib.Ieee.{Float, nan, inf, fin, binary32, up, down, unlike, round, add, sub, sum, mul, neg, fits}
use lib.Ieee.Back.{round_whole}
use lib.Ieee.Exact.{HasValue}
use lib.Ieee.Fits.{down_pos, up_pos}
use lib.Ieee.Scale.{round_same}
use borrow.Author.Tests.{le-ltb, ne_eqb}
use Rattle.floats.specs.F32.{◌⊕◌, ◌⊖◌, ◌⊗◌}
use Rattle.floats.specs.Steps.{◌>>=◌}
use Rattle.floats.proofs.Own.{add_none}
use Rattle.floats.proofs.Exact.{mul_value}
use Rattle.floats.proofs.Sums.{sub_value}
use Rattle.floats.proofs.Values.{apart}
use Rattle.reads.specs.Reads.{fraction_of, cycle_at}
use Rattle.reads.proofs.FractionLaws.{fraction_value}

-- between two entries
abbrev pub read : Float → Float → Float → Float
read first next fraction = first ⊕ (next ⊖ first) ⊗ fraction

abbrev pub first_at : List Float → ℕ → Float
first_at cycle word = get_or cycle (word / 2 ^ 21) nan

abbrev pub next_at : List Float → ℕ → Float
next_at cycle word = get_or cycle ((word / 2 ^ 21 + 1) % 2048) nan

pub between : (cycle : List Float) (word : ℕ) → cycle_at cycle word ≡ read (first_at cycle word) (next_at cycle word) (fraction_of word)
unfolding cycle_at ◌>>=◌
between cycle word = refl

-- no entry past 2,047 is looked at
pub entries_read : (cycle : List Float) (word : ℕ) → word < 2 ^ 32 → cycle_at (take 2048 cycle) word ≡ cycle_at cycle word
unfolding cycle_at
entries_read cycle word h = rw (get_or-take 2048 cycle (word / 2 ^ 21) nan (omega arith), get_or-take 2048 cycle ((word / 2 ^ 21 + 1) % 2048) nan (omega arith))

-- ---- a product that is a zero of either sign changes no number but -0
record Zero (z : Float) : Type 0 where
  sign : Bool
  value : HasValue z sign 0 1

round_none : (s : Bool) (c : ℕ) → 0 < c → Zero (round binary32 s 0 c)
round_none s c C = record { sign = s; value = subst (λ (z : Float). HasValue z s 0 1) (round_same binary32 s 0 1 0 c (lit< tt) C (zero-mul c)) (round_whole binary32 s 0 (omega arith)) }

product_none : (x y : Float) (s t : Bool) (a c b d : ℕ) → 0 < c → 0 < d → HasValue x s a c → HasValue y t b d → a * b ≡ 0 → Zero (x ⊗ y)
product_none x y s t a c b d C D v w h =
    subst Zero (sym (mul_value binary32 x y s t a c b d C D v w ∙ ap (λ (z : ℕ). round binary32 (unlike s t) z (c * d)) h)) (round_none (unlike s t) (c * d) (mul-pos C D))

-- a finite x, held by the format, that is not -0
module _ (x : Float) (s : Bool) (a c : ℕ) (C : 0 < c) (held : T (fits binary32 x)) (v : HasValue x s a c) (sign : a ≡ 0 → s ≡ false) where
  kept : (z : Float) → Zero z → x ⊕ z ≡ x
  kept z n = add_none x z s n.sign a c C held v n.value sign

  self_none : Zero (x ⊖ x)
  self_none = subst Zero (sym (sub_value binary32 x x s s a a c C v v ∙ go s)) (round_none false c C)
    where
      go : (s : Bool) → sum binary32 s a (not s) a c ≡ round binary32 false 0 c
      go true = unfold sum in rw (le-ltb a a (le_refl a), sub_self a)
      go false = unfold sum in rw (le-ltb a a (le_refl a), sub_self a)

  -- neighbours that are alike
  pub level_read : (cycle : List Float) (word : ℕ) → first_at cycle word ≡ x → next_at cycle word ≡ x → cycle_at cycle word ≡ x
  level_read cycle word p q =
      between cycle word ∙ rw (p, q) (kept _ (product_none (x ⊖ x) (fraction_of word) self_none.sign false 0 1 (word % 2 ^ 21) (2 ^ 21) (lit< tt) (pow_pos 21) self_none.value (fraction_value word) (zero-mul _)))

  -- a word at its entry, where the difference does not overflow
  pub entry_read : (cycle : List Float) (word : ℕ) (t : Bool) (b d : ℕ) → 0 < d → first_at cycle word ≡ x → HasValue (next_at cycle word ⊖ x) t b d → word % 2 ^ 21 ≡ 0 → cycle_at cycle word ≡ x
  entry_read cycle word t b d D p w h =
      between cycle word
      ∙ rw p (kept _ (product_none (next_at cycle word ⊖ x) (fraction_of word) t false b d (word % 2 ^ 21) (2 ^ 21) D (pow_pos 21) w (fraction_value word) (ap (λ (z : ℕ). b * z) h ∙ mul-zero b)))

-- ---- infinities and NaN
nan_last : (x : Float) → x ⊕ nan ≡ nan
unfolding add
nan_last nan = refl
nan_last (inf s) = refl
nan_last (fin s m e) = refl

pub nan_first : (cycle : List Float) (word : ℕ) → first_at cycle word ≡ nan → cycle_at cycle word ≡ nan
unfolding add
nan_first cycle word p = between cycle word ∙ rw p

pub nan_next : (cycle : List Float) (word : ℕ) → next_at cycle word ≡ nan → cycle_at cycle word ≡ nan
unfolding sub add mul
nan_next cycle word p = between cycle word ∙ rw p (nan_last (first_at cycle word))

-- an infinite entry, whatever the next: against it stands an infinity of the other sign, or NaN
against : (s b : Bool) → inf s ⊕ cond b nan (inf (unlike (not s) false)) ≡ nan
unfolding add
against true true = refl
against true false = refl
against false true = refl
against false false = refl

lost : (s : Bool) (next fraction : Float) (n d : ℕ) → HasValue fraction false n d → read (inf s) next fraction ≡ nan
unfolding sub add mul neg
lost s next nan n d v = absurd v
lost s next (inf t) n d v = absurd v
lost s next (fin true m e) n d v = apart v.0
lost s nan (fin false m e) n d v = refl
lost s (fin r k g) (fin false m e) n d v = against s (eqb m 0)
lost true (inf true) (fin false m e) n d v = refl
lost true (inf false) (fin false m e) n d v = against true (eqb m 0)
lost false (inf true) (fin false m e) n d v = against false (eqb m 0)
lost false (inf false) (fin false m e) n d v = refl

pub infinite_first : (cycle : List Float) (word : ℕ) (s : Bool) → first_at cycle word ≡ inf s → cycle_at cycle word ≡ nan
infinite_first cycle word s p = between cycle word ∙ rw p (lost s (next_at cycle word) (fraction_of word) (word % 2 ^ 21) (2 ^ 21) (fraction_value word))

-- an infinite neighbour of a number: NaN at the entry, and past it the infinity
reached : (t r : Bool) (k : ℕ) (g : ℤ) (fraction : Float) (n d : ℕ) → 0 < d → HasValue fraction false n d → read (fin r k g) (inf t) fraction ≡ cond (eqb n 0) nan (inf t)
unfolding sub add mul neg
reached t r k g nan n d D v = absurd v
reached t r k g (inf u) n d D v = absurd v
reached t r k g (fin true m e) n d D v = apart v.0
reached t r k g (fin false m e) n d D v = ap (λ (b : Bool). fin r k g ⊕ cond b nan (inf (unlike t false))) (alike m n v.1) ∙ go (eqb n 0) t
  where
    go : (b t : Bool) → fin r k g ⊕ cond b nan (inf (unlike t false)) ≡ cond b nan (inf t)
    go true t = refl
    go false true = refl
    go false false = refl

    alike : (m n : ℕ) → m * up e * d ≡ n * down e → eqb m 0 ≡ eqb n 0
    alike zero zero h = refl
    alike zero (suc n) h = absurd (lt_irrefl 0 (lt_of_lt_of_le (mul-pos (zero-lt-suc n) (down_pos e)) (le_of_eq (sym h ∙ ap (λ (z : ℕ). z * d) (zero-mul (up e)) ∙ zero-mul d))))
    alike (suc m) zero h = absurd (lt_irrefl 0 (lt_of_lt_of_le (mul-pos (mul-pos (zero-lt-suc m) (up_pos e)) D) (le_of_eq (h ∙ zero-mul (down e)))))
    alike (suc m) (suc n) h = ne_eqb (suc m) 0 (some m) ∙ sym (ne_eqb (suc n) 0 (some n))
      where
        some : (z : ℕ) → suc z ≡ 0 → ⊥
        some z e = omega arith

pub infinite_next : (cycle : List Float) (word : ℕ) (t r : Bool) (k : ℕ) (g : ℤ) → first_at cycle word ≡ fin r k g → next_at cycle word ≡ inf t → cycle_at cycle word ≡ cond (eqb (word % 2 ^ 21) 0) nan (inf t)
infinite_next cycle word t r k g p q = between cycle word ∙ rw (p, q) (reached t r k g (fraction_of word) (word % 2 ^ 21) (2 ^ 21) (pow_pos 21) (fraction_value word))
