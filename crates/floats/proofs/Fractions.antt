-- x less its floor, for an x above -1 and below 1: x itself, or 1 more where x is below 0. Assumes nothing.
use mathlib.Core.Path.{◌≡◌, refl, sym, ap, ◌∙◌}
use mathlib.Core.Bool.{Bool, true, false, cond, ◌&&◌, beq}
use Prim.Native.Nat.{ℕ, zero, suc, ◌+◌, ◌-◌, ◌*◌, ◌<◌}
use native.Mathlib.Nat.{zero-lt-suc, zero-mul, mul-pos, div-eq_of_lt, mod-eq_of_lt}
use native.Mathlib.Omega.{arith}
use lib.IntN.{ℤ, pos}
use lib.Ieee.{Float, nan, inf, fin, binary32, up, down, size, units, odd, round, add, sub, sum, neg, lt, of_bits, of_int}
use lib.Ieee.Fits.{down_pos, up_pos}
use lib.Ieee.Scale.{round_same}
use borrow.Author.Tests.{lt-ltb, le-ltb, ltb-true, ne_eqb}
use Rattle.floats.specs.F32.{◌⊕◌, ◌⊖◌, 0f, 1f}
use Rattle.floats.specs.Floor.{floor_of}
use Rattle.floats.proofs.Values.{apart}

abbrev one : Float
one = fin false 1 (pos 0)

abbrev zer : Float
zer = fin false 0 (pos 0)

-- what is to be shown of x
abbrev Rest : Float → Type 0
Rest x = sub binary32 x (floor_of x) ≡ add binary32 x (cond (lt x zer) one zer)

zero_floor : (s : Bool) (e : ℤ) → floor_of (fin s 0 e) ≡ fin s 0 e
unfolding floor_of
zero_floor s e = rw (zero-mul (up e), mod-eq_of_lt (down_pos e)) refl

-- a sum of two zeros that are not both -0
zeros : (s t : Bool) (a b c : ℕ) → s && t ≡ false → a ≡ 0 → b ≡ 0 → sum binary32 s a t b c ≡ round binary32 false 0 c
unfolding sum
zeros s t a b c E A B = rw (A, B) (go s t E)
  where
    go : (s t : Bool) → s && t ≡ false → cond (beq s t) (round binary32 s 0 c) (round binary32 (s && false) 0 c) ≡ round binary32 false 0 c
    go false false E = refl
    go false true E = refl
    go true false E = refl
    go true true E = apart E

none : (s : Bool) (e : ℤ) → Rest (fin s 0 e)
none s e = rw (zero_floor s e, not_below s) (both s)
  where
    nothing : (a : ℕ) → 0 * up e * a ≡ 0
    nothing a = omega arith

    not_below : (s : Bool) → lt (fin s 0 e) zer ≡ false
    not_below false = unfold lt in le-ltb (0 * up e * 1) (0 * down e) (omega arith)
    not_below true = unfold lt in le-ltb 0 (0 * up e * 1 + 0 * down e) (omega arith)

    same : round binary32 false 0 (down e * down e) ≡ round binary32 false 0 (down e * 1)
    same = round_same binary32 false 0 (down e * down e) 0 (down e * 1) (mul-pos (down_pos e) (down_pos e)) (omega (arith, down_pos e)) (omega arith)

    both : (s : Bool) → sub binary32 (fin s 0 e) (fin s 0 e) ≡ add binary32 (fin s 0 e) zer
    both false = unfold sub add neg in (zeros false true _ _ _ refl (nothing (down e)) (nothing (down e)) ∙ same ∙ sym (zeros false false _ _ _ refl (nothing 1) (zero-mul (down e))))
    both true = unfold sub add neg in (zeros true false _ _ _ refl (nothing (down e)) (nothing (down e)) ∙ same ∙ sym (zeros true false _ _ _ refl (nothing 1) (zero-mul (down e))))

plus : (m : ℕ) (e : ℤ) → 0 < m * up e → m * up e < down e → Rest (fin false m e)
plus m e some h = rw (down_none, not_below) whole
  where
    down_none : floor_of (fin false m e) ≡ zer
    down_none = unfold floor_of in rw (mod-eq_of_lt h, div-eq_of_lt h, ne_eqb (m * up e) 0 (λ z. omega arith)) (unfold of_int round size units odd in refl)

    not_below : lt (fin false m e) zer ≡ false
    not_below = unfold lt in le-ltb (m * up e * 1) (0 * down e) (omega arith)

    same : m * up e * 1 - 0 * down e ≡ m * up e * 1 + 0 * down e
    same = omega arith

    whole : sub binary32 (fin false m e) zer ≡ add binary32 (fin false m e) zer
    whole = unfold sub add sum neg in rw (le-ltb (m * up e * 1) (0 * down e) (omega arith)) (ap (λ (k : ℕ). round binary32 false k (down e * 1)) same)

minus : (m : ℕ) (e : ℤ) → 0 < m * up e → m * up e < down e → Rest (fin true m e)
unfolding sub add neg
minus m e some h =
    ap (λ (y : Float). sub binary32 (fin true m e) y) down_one
    ∙ ap (λ (b : Bool). add binary32 (fin true m e) (cond b one zer)) (sym below)
  where
    down_one : floor_of (fin true m e) ≡ fin true 1 (pos 0)
    down_one = unfold floor_of in rw (mod-eq_of_lt h, div-eq_of_lt h, ne_eqb (m * up e) 0 (λ z. omega arith)) (unfold of_int round size units odd in refl)

    below : lt (fin true m e) zer ≡ true
    below = unfold lt in lt-ltb 0 (m * up e * 1 + 0 * down e) (omega arith)

finite : (s : Bool) (m : ℕ) (e : ℤ) → m * up e < down e → Rest (fin s m e)
finite s zero e h = none s e
finite false (suc m) e h = plus (suc m) e (mul-pos (zero-lt-suc m) (up_pos e)) h
finite true (suc m) e h = minus (suc m) e (mul-pos (zero-lt-suc m) (up_pos e)) h

inner : (x : Float) → lt x one ≡ true → lt (neg one) x ≡ true → Rest x
inner nan p q = apart (sym (unfold lt in p))
inner (inf false) p q = apart (sym (unfold lt in p))
inner (inf true) p q = apart (sym (unfold lt neg in q))
inner (fin false m e) p q = finite false m e (unfold lt in (let h = ltb-true (m * up e * 1) (1 * down e) p in omega arith))
inner (fin true m e) p q = finite true m e (unfold lt neg in (let h = ltb-true (m * up e * 1) (1 * down e) q in omega arith))

pub fraction : (x : Float) → lt x 1f ≡ true → lt (neg 1f) x ≡ true → x ⊕ cond (lt x 0f) 1f 0f ≡ x ⊖ floor_of x
unfolding of_bits
fraction x p q = sym (inner x p q)
