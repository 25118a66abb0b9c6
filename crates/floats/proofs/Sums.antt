-- A sum by any two fractions of one denominator that its operands equal (`add_value`), and a difference (`sub_value`). Assumes nothing.
use mathlib.Core.Path.{◌≡◌, refl, sym, ap, ◌∙◌}
use Prim.Native.Nat.{ℕ, ◌+◌, ◌-◌, ◌*◌, ◌<◌}
use native.Mathlib.Nat.{le_of_eq, lt_of_le_of_lt, lt_of_lt_of_le, mul_assoc, mul_comm, mul_right_comm, mul-pos, mul-lt-mul_of_pos_right, lt_of_mul-lt-mul_right, mul-le-mul_right, le_of_mul-le-mul_right, le_trans, mul-sub}
use native.Mathlib.Omega.{arith}
use mathlib.Core.Bool.{Bool, true, false, not, ◌&&◌, beq, cond}
use lib.Dec.{ltb}
use lib.Ieee.{Float, nan, inf, fin, Format, up, down, round, sum, add, sub, neg}
use lib.Ieee.Fits.{down_pos}
use lib.Ieee.Exact.{HasValue}
use lib.Ieee.Scale.{round_same}
use borrow.Author.Tests.{lt-ltb, le-ltb, ltb-true, ltb-false}

pub sub_mul : (a b c : ℕ) → (a - b) * c ≡ a * c - b * c
sub_mul a b c = mul_comm (a - b) c ∙ mul-sub c a b ∙ ap (λ (x : ℕ). x - c * b) (mul_comm c a) ∙ ap (λ (x : ℕ). a * c - x) (mul_comm c b)

-- equal fractions are in one order
module _ (a b c a' b' c' : ℕ) (C : 0 < c) (C' : 0 < c') (A : a * c' ≡ a' * c) (B : b * c' ≡ b' * c) where
  ltb_same : ltb a b ≡ ltb a' b'
  ltb_same = go (ltb a' b') refl
    where
      go : (t : Bool) → ltb a' b' ≡ t → ltb a b ≡ t
      go true h = lt-ltb a b (lt_of_mul-lt-mul_right c' (lt_of_le_of_lt (le_of_eq A) (lt_of_lt_of_le (mul-lt-mul_of_pos_right (ltb-true a' b' h) C) (le_of_eq (sym B)))))
      go false h = le-ltb a b (le_of_mul-le-mul_right (le_trans (le_of_eq B) (le_trans (mul-le-mul_right c (ltb-false a' b' h)) (le_of_eq (sym A)))) C')

  sub_same : (b - a) * c' ≡ (b' - a') * c
  sub_same = sub_mul b a c' ∙ ap (λ (x : ℕ). x - a * c') B ∙ ap (λ (x : ℕ). b' * c - x) A ∙ sym (sub_mul b' a' c)

module _ (f : Format) (s : Bool) (a : ℕ) (t : Bool) (b c a' b' c' : ℕ) (C : 0 < c) (C' : 0 < c') (A : a * c' ≡ a' * c) (B : b * c' ≡ b' * c) where
  pub sum_same : sum f s a t b c ≡ sum f s a' t b' c'
  unfolding sum
  sum_same =
      go (beq s t) (ltb a b) (ltb b a) (ltb a' b') (ltb b' a') (ltb_same a b c a' b' c' C C' A B) (ltb_same b a c b' a' c' C C' B A)
    where
      go : (u p q p' q' : Bool) → p ≡ p' → q ≡ q' → cond u (round f s (a + b) c) (cond p (round f t (b - a) c) (round f (s && q) (a - b) c))
          ≡ cond u (round f s (a' + b') c') (cond p' (round f t (b' - a') c') (round f (s && q') (a' - b') c'))
      go true p q p' q' e g = round_same f s (a + b) c (a' + b') c' C C' (omega arith)
      go false p q true q' e g = rw e (round_same f t (b - a) c (b' - a') c' C C' (sub_same a b c a' b' c' C C' A B))
      go false p q false q' e g = rw (e, g) (round_same f (s && q') (a - b) c (a' - b') c' C C' (sub_same b a c b' a' c' C C' B A))

pub add_value : (f : Format) (x y : Float) (s t : Bool) (a b c : ℕ) → 0 < c → HasValue x s a c → HasValue y t b c → add f x y ≡ sum f s a t b c
unfolding add
add_value f nan y s t a b c C v w = absurd v
add_value f (inf r) y s t a b c C v w = absurd v
add_value f (fin r m e) nan s t a b c C v w = absurd w
add_value f (fin r m e) (inf u) s t a b c C v w = absurd w
add_value f (fin r m e) (fin u n g) s t a b c C v w =
    rw (v.0, w.0)
    (sum_same f s (m * up e * down g) t (n * up g * down e) (down e * down g) a b c (mul-pos (down_pos e) (down_pos g)) C
    (mul_right_comm (m * up e) (down g) c ∙ ap (λ (z : ℕ). z * down g) v.1 ∙ mul_assoc a (down e) (down g))
    (mul_right_comm (n * up g) (down e) c ∙ ap (λ (z : ℕ). z * down e) w.1 ∙ mul_assoc b (down g) (down e) ∙ ap (λ (z : ℕ). b * z) (mul_comm (down g) (down e))))

pub neg_value : (x : Float) (s : Bool) (a c : ℕ) → HasValue x s a c → HasValue (neg x) (not s) a c
unfolding neg
neg_value nan s a c v = v
neg_value (inf t) s a c v = v
neg_value (fin t m e) s a c v = (ap not v.0, v.1)

pub sub_value : (f : Format) (x y : Float) (s t : Bool) (a b c : ℕ) → 0 < c → HasValue x s a c → HasValue y t b c → sub f x y ≡ sum f s a (not t) b c
unfolding sub
sub_value f x y s t a b c C v w = add_value f x (neg y) s (not t) a b c C v (neg_value y t b c w)
