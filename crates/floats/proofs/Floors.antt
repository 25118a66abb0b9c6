-- `floor` by adding and taking off 2 ^ 23 with the sign of x, in each of its ways. Assumes nothing.
use mathlib.Core.Path.{◌≡◌, refl, sym, ap, ◌∙◌, subst}
use mathlib.Core.Logic.{inl, inr}
use mathlib.Core.Bool.{Bool, true, false, cond, ◌&&◌, ◌||◌, beq}
use Prim.Native.Nat.{ℕ, zero, suc, ◌+◌, ◌-◌, ◌*◌, ◌/◌, ◌%◌, ◌^◌, ◌<◌, ◌≤◌}
use native.Mathlib.Nat.{zero-lt-suc, zero-mul, lt_irrefl, le_of_lt, mul-one, mul_right_comm, mul-pos, le_of_eq, le-div_iff_mul-le, div-lt_iff_lt-mul, div-add-mod', eq_of_mul-eq-mul_right, eq-or-lt_of_le, mul-mod_left}
use native.Mathlib.Omega.{arith}
use native.Mathlib.Numerals.{add-one}
use lib.IntN.{ℤ, pos, negsuc}
use lib.Pow.{pow_mono}
use lib.Dec.{T, leb, ltb, eqb, lit<, ltb→lt, eqb→eq}
use lib.Ieee.{Float, nan, inf, fin, binary32, up, down, size, units, odd, round, add, sub, sum, neg, lt, eq, fits, of_int}
use lib.Ieee.Fits.{and_l, and_r, cond-fits, down_pos, up_pos, sub-fits, of_int-fits}
use lib.Ieee.Exact.{HasValue}
use lib.Ieee.Back.{round_whole, whole_unique}
use borrow.Author.Tests.{lt-ltb, le-ltb, ltb-true, ltb-false, eqb-true, eq-eqb, ne_eqb}
use Rattle.floats.specs.Floor.{floor_of}
use Rattle.floats.proofs.NearWhole.{near, part, two23, shifted, least, near_is, near_ge, near_le, sum_value, whole_part}
use Rattle.floats.proofs.Sums.{neg_value}
use Rattle.floats.proofs.Values.{apart, lt_values, lt_negative, lt_across, sub_whole, sub_below, sub_negative, rise_round, fall_round, neg_round}

-- ---- the values of the definition
module _ (m : ℕ) (e : ℤ) where
  abbrev n : ℕ
  n = m * up e

  abbrev d : ℕ
  d = down e

  floor_up : n / d ≤ 2 ^ 24 → HasValue (floor_of (fin false m e)) false (n / d) 1
  unfolding floor_of of_int
  floor_up h = go (eqb (n % d) 0) refl
    where
      go : (t : Bool) → eqb (n % d) 0 ≡ t → HasValue (cond t (fin false m e) (round binary32 false (n / d) 1)) false (n / d) 1
      go true z = (refl, mul-one n ∙ omega (arith, div-add-mod' n d, eqb-true (n % d) 0 z))
      go false z = round_whole binary32 false (n / d) h

  -- x is whole
  floor_whole : (s : Bool) → n % d ≡ 0 → floor_of (fin s m e) ≡ fin s m e
  unfolding floor_of
  floor_whole s z = rw (eq-eqb (n % d) 0 z)

  floor_down : (n % d ≡ 0 → ⊥) → n / d < 2 ^ 24 → HasValue (floor_of (fin true m e)) true (suc (n / d)) 1
  unfolding floor_of of_int
  floor_down z h = rw (ne_eqb (n % d) 0 z) (round_whole binary32 true (suc (n / d)) h)

floor_fits : (x : Float) → T (fits binary32 x) → T (fits binary32 (floor_of x))
unfolding floor_of
floor_fits nan h = h
floor_fits (inf s) h = h
floor_fits (fin s m e) h = cond-fits binary32 (eqb (m * up e % down e) 0) (fin s m e) (of_int binary32 (cond s (negsuc (m * up e / down e)) (pos (m * up e / down e)))) h (of_int-fits binary32 (cond s (negsuc (m * up e / down e)) (pos (m * up e / down e))))

-- ---- a float that equals a whole number
whole_eq : (p A d g c : ℕ) → 0 < g → p * d ≡ A * g → p * 1 ≡ c * g → A ≡ c * d
whole_eq p A d g c G e v = eq_of_mul-eq-mul_right g G A (c * d) (sym e ∙ ap (λ (z : ℕ). z * d) (sym (mul-one p) ∙ v) ∙ mul_right_comm c g d)

same_size : (t : Float) (s r : Bool) (m c : ℕ) (e : ℤ) → HasValue t s c 1 → eq t (fin r m e) ≡ true → m * up e ≡ c * down e
unfolding eq
same_size nan s r m c e v h = absurd v
same_size (inf u) s r m c e v h = absurd v
same_size (fin u n g) s r m c e v h =
    let a = n * up g * down e in
    let b = m * up e * down g in
    whole_eq (n * up g) (m * up e) (down e) (down g) c (down_pos g) (eqb→eq a b (and_l (eqb a b) (beq u r || eqb a 0) (subst T (sym h) tt))) v.1

multiple : (s : Bool) (m : ℕ) (e : ℤ) (k : ℕ) → m * up e ≡ k * down e → fin s m e ≡ floor_of (fin s m e)
multiple s m e k h = sym (floor_whole m e s (rw (h, mul-mod_left k (down e))))

-- ---- the program's ways
abbrev pub one : Float
one = fin false 1 (pos 0)

abbrev zer : Float
zer = fin false 0 (pos 0)

-- the nearest whole number to x
abbrev pub near_whole_of : Float → Float
near_whole_of x = sub binary32 (add binary32 x (cond (lt x zer) (neg two23) two23)) (cond (lt x zer) (neg two23) two23)

module _ (m : ℕ) (e : ℤ) (below : m * up e < 8388608 * down e) where
  abbrev c : ℕ
  c = part (m * up e) (down e)

  value : HasValue (shifted (fin false m e)) false c 1
  value = whole_part m e below

  quot_lt : m * up e / down e < 8388608
  quot_lt = (div-lt_iff_lt-mul (down_pos e)).1 below

  -- c against the size n / d: it is the quotient where it is not above, one more where it is
  c_under : c * down e ≤ m * up e → c ≡ m * up e / down e
  c_under f =
      let g : c ≤ m * up e / down e = (le-div_iff_mul-le (down_pos e)).1 f in
      let l = near_ge (m * up e) (down e) (down_pos e) in
      omega arith

  c_over : m * up e < c * down e → c ≡ suc (m * up e / down e)
  c_over f =
      let g : m * up e / down e < c = (div-lt_iff_lt-mul (down_pos e)).1 f in
      let l = near_le (m * up e) (down e) (down_pos e) in
      omega arith

  -- nothing is left over: c is the quotient
  exact : m * up e % down e ≡ 0 → c ≡ m * up e / down e
  exact z = let w : near (m * up e) (down e) ≡ m * up e / down e + 8388608 = near_is (m * up e) (down e) (down_pos e) ∙ rw (z, least (down e) (down_pos e)) in omega arith

  -- for x above 0
  over : lt (fin false m e) (shifted (fin false m e)) ≡ ltb (m * up e * 1) (c * down e)
  over = lt_values (fin false m e) (shifted (fin false m e)) (m * up e) (down e) c 1 (down_pos e) (lit< tt) (refl, refl) value

  up_less : T (fits binary32 (fin false m e)) → lt (fin false m e) (shifted (fin false m e)) ≡ true → sub binary32 (shifted (fin false m e)) one ≡ floor_of (fin false m e)
  up_less held t =
      let v = c_over (let h = ltb-true (m * up e * 1) (c * down e) (sym over ∙ t) in omega arith) in
      let q = quot_lt in
      whole_unique binary32 (sub binary32 (shifted (fin false m e)) one) (floor_of (fin false m e)) false (m * up e / down e) (sub-fits binary32 (shifted (fin false m e)) one) (floor_fits (fin false m e) held)
      (subst (λ (k : ℕ). HasValue (sub binary32 (shifted (fin false m e)) one) false k 1) (pred v) (sub_whole (shifted (fin false m e)) one c 1 value (refl, refl) (omega arith) (omega arith)))
      (floor_up m e (omega arith))
    where
      pred : c ≡ suc (m * up e / down e) → c - 1 ≡ m * up e / down e
      pred v = omega arith

  up_same : T (fits binary32 (fin false m e)) → lt (fin false m e) (shifted (fin false m e)) ≡ false → shifted (fin false m e) ≡ floor_of (fin false m e)
  up_same held t =
      let v = c_under (let h = ltb-false (m * up e * 1) (c * down e) (sym over ∙ t) in omega arith) in
      let q = quot_lt in
      whole_unique binary32 (shifted (fin false m e)) (floor_of (fin false m e)) false (m * up e / down e) (sub-fits binary32 (add binary32 (fin false m e) two23) two23) (floor_fits (fin false m e) held)
      (subst (λ (k : ℕ). HasValue (shifted (fin false m e)) false k 1) v value)
      (floor_up m e (omega arith))

  -- for x below 0, of that size: the sum and the difference are those of the size, negated, but +0 for a 0
  module _ (some : 0 < m * up e) (held : T (fits binary32 (fin true m e))) where
    abbrev x : Float
    x = fin true m e

    abbrev t : Float
    t = sub binary32 (add binary32 x (neg two23)) (neg two23)

    abbrev S : Float
    S = add binary32 (fin false m e) two23

    abbrev N : ℕ
    N = near (m * up e) (down e)

    pub t_is : t ≡ add binary32 (neg S) two23
    unfolding sub add sum neg
    t_is = ap (λ (y : Float). add binary32 y two23) (sym (neg_round (m * up e * 1 + 8388608 * down e) (down e * 1)))

    pub sum_size : HasValue (neg S) true N 1
    sum_size = neg_value S false N 1 (sum_value m e below)

    small : c ≤ 2 ^ 24
    small = let q = quot_lt in let l = near_le (m * up e) (down e) (down_pos e) in omega arith

    at_zero : N ≡ 8388608 → HasValue t false 0 1
    at_zero z =
        subst (λ (y : Float). HasValue y false 0 1) (sym (t_is ∙ rise_round (neg S) two23 N 8388608 sum_size (refl, refl) (le_of_eq z) ∙ ap (λ (k : ℕ). round binary32 false k 1) none))
        (round_whole binary32 false 0 (omega arith))
      where
        none : 8388608 - N ≡ 0
        none = omega arith

    at_negative : 8388608 < N → HasValue t true c 1
    at_negative z = subst (λ (y : Float). HasValue y true c 1) (sym (t_is ∙ fall_round (neg S) two23 N 8388608 sum_size (refl, refl) z)) (round_whole binary32 true c small)

    rest : c ≡ m * up e / down e → c * down e < m * up e → m * up e % down e ≡ 0 → ⊥
    rest v f r = lt_irrefl (m * up e) (subst (λ (k : ℕ). k < m * up e) (ap (λ (k : ℕ). k * down e) v ∙ omega (arith, div-add-mod' (m * up e) (down e))) f)

    near_least : 8388608 ≤ N
    near_least = let g = near_ge (m * up e) (down e) (down_pos e) in omega arith

    c_zero : 8388608 ≡ N → c ≡ 0
    c_zero z = omega arith

    -- one less than t, and t
    less_is : (y : Float) → T (fits binary32 y) → HasValue y true (c + 1) 1 → c * down e < m * up e → y ≡ floor_of x
    less_is y F v f =
        let u = c_under (le_of_lt f) in
        whole_unique binary32 y (floor_of x) true (suc (m * up e / down e)) F (floor_fits x held)
        (subst (λ (k : ℕ). HasValue y true k 1) (add-one c ∙ ap suc u) v) (floor_down m e (rest u f) (let q = quot_lt in omega arith))

    same_is : (y : Float) → T (fits binary32 y) → HasValue y true c 1 → m * up e ≤ c * down e → y ≡ floor_of x
    same_is y F v f = elim (eq-or-lt_of_le f) [
      | inl e' ↦ whole_unique binary32 y (floor_of x) true c F (floor_fits x held) v (rw (floor_whole m e true (rw (e', mul-mod_left c (down e)))) (refl, mul-one (m * up e) ∙ e'))
      | inr l ↦
          let u = c_over l in
          whole_unique binary32 y (floor_of x) true (suc (m * up e / down e)) F (floor_fits x held) (subst (λ (k : ℕ). HasValue y true k 1) u v) (floor_down m e (over_rest l u) (let q = quot_lt in omega arith))
    ]
      where
        over_rest : m * up e < c * down e → c ≡ suc (m * up e / down e) → m * up e % down e ≡ 0 → ⊥
        over_rest l u r = never (m * up e / down e) (sym (exact r) ∙ u)
          where
            never : (q : ℕ) → q ≡ suc q → ⊥
            never q h = omega arith

    down_less : lt x t ≡ true → sub binary32 t one ≡ floor_of x
    down_less l = elim (eq-or-lt_of_le (near_least)) [
      | inl z ↦ less_is (sub binary32 t one) (sub-fits binary32 t one) (at_one z) (none z)
      | inr g ↦
          less_is (sub binary32 t one) (sub-fits binary32 t one) (rw (sub_negative t one c 1 (at_negative g) (refl, refl)) (round_whole binary32 true (c + 1) (let q = quot_lt in let l = near_le (m * up e) (down e) (down_pos e) in omega arith)))
          (let h = ltb-true (c * down e) (m * up e * 1) (sym (lt_negative x t (m * up e) (down e) c 1 (down_pos e) (lit< tt) (refl, refl) (at_negative g)) ∙ l) in omega arith)
    ]
      where
        at_one : 8388608 ≡ N → HasValue (sub binary32 t one) true (c + 1) 1
        at_one z = rw (c_zero z, sub_below t one 0 1 (at_zero (sym z)) (refl, refl) (lit< tt)) (round_whole binary32 true 1 (omega arith))

        none : 8388608 ≡ N → c * down e < m * up e
        none z = rw (c_zero z, zero-mul) some

    down_same : lt x t ≡ false → t ≡ floor_of x
    down_same l = elim (eq-or-lt_of_le (near_least)) [
      | inl z ↦ apart (sym (lt_across m e t 0 1 some (at_zero (sym z))) ∙ l)
      | inr g ↦
          same_is t (sub-fits binary32 (add binary32 x (neg two23)) (neg two23)) (at_negative g)
          (let h = ltb-false (c * down e) (m * up e * 1) (sym (lt_negative x t (m * up e) (down e) c 1 (down_pos e) (lit< tt) (refl, refl) (at_negative g)) ∙ l) in omega arith)
    ]

    down_whole : eq t x ≡ true → x ≡ floor_of x
    down_whole h = elim (eq-or-lt_of_le (near_least)) [
      | inl z ↦ multiple true m e 0 (same_size t false true m 0 e (at_zero (sym z)) h)
      | inr g ↦ multiple true m e c (same_size t true true m c e (at_negative g) h)
    ]

-- ---- x from 2 ^ 23 on is whole
pub pow_ge : (k : ℕ) → 2 ≤ 2 ^ suc k
pow_ge k = pow_mono {i = 1} (omega arith)

no_fraction : (s : Bool) (m k : ℕ) → T (fits binary32 (fin s m (negsuc k))) → 8388608 * 2 ^ suc k ≤ m → ⊥
unfolding fits
no_fraction s zero k h g = let p = pow_ge k in omega arith
no_fraction s (suc m) k h g =
    let a = eqb (suc m % 2) 1 in
    let b = ltb (suc m) (2 ^ 24) in
    let c = leb (2 ^ suc k) (2 ^ 149) in
    let l : suc m < 2 ^ 24 = ltb→lt (suc m) (2 ^ 24) (and_r a b (and_l (a && b) c (and_l (a && b && c) (ltb (suc m * 1) (2 ^ 128 * 2 ^ suc k)) h))) in
    let p = pow_ge k in
    omega arith

whole_big : (s : Bool) (m : ℕ) (e : ℤ) → T (fits binary32 (fin s m e)) → 8388608 * down e ≤ m * up e → m * up e % down e ≡ 0
whole_big s m (pos k) h g = omega arith
whole_big s m (negsuc k) h g = absurd (no_fraction s m k h (omega arith))

large : (s : Bool) (m : ℕ) (e : ℤ) → T (fits binary32 (fin s m e)) → 8388608 * down e ≤ m * up e → fin s m e ≡ floor_of (fin s m e)
large s m e h g = sym (floor_whole m e s (whole_big s m e h g))

pub from_up : (x : Float) → T (fits binary32 x) → lt x two23 ≡ false → x ≡ floor_of x
unfolding lt floor_of
from_up nan h p = refl
from_up (inf s) h p = refl
from_up (fin false m e) h p = large false m e h (let g = ltb-false (m * up e * 1) (8388608 * down e) p in omega arith)
from_up (fin true m e) h p = apart (sym (lt-ltb 0 (m * up e * 1 + 8388608 * down e) (let d = down_pos e in omega arith)) ∙ p)

pub from_down : (x : Float) → T (fits binary32 x) → lt x two23 ≡ true → lt (neg two23) x ≡ false → x ≡ floor_of x
unfolding lt floor_of neg
from_down nan h p q = refl
from_down (inf s) h p q = refl
from_down (fin true m e) h p q = large true m e h (let g = ltb-false (m * up e * 1) (8388608 * down e) q in omega arith)
from_down (fin false m e) h p q = apart (sym (lt-ltb 0 (8388608 * down e + m * up e * 1) (let d = down_pos e in omega arith)) ∙ q)

-- ---- below 2 ^ 23 in size
pub plus_is : (m : ℕ) (e : ℤ) → near_whole_of (fin false m e) ≡ shifted (fin false m e)
plus_is m e = ap (λ (b : Bool). sub binary32 (add binary32 (fin false m e) (cond b (neg two23) two23)) (cond b (neg two23) two23)) not_below
  where
    not_below : lt (fin false m e) zer ≡ false
    not_below = unfold lt in le-ltb (m * up e * 1) (0 * down e) (omega arith)

pub minus_is : (m : ℕ) (e : ℤ) → 0 < m * up e → near_whole_of (fin true m e) ≡ sub binary32 (add binary32 (fin true m e) (neg two23)) (neg two23)
minus_is m e some =
    ap (λ (b : Bool). sub binary32 (add binary32 (fin true m e) (cond b (neg two23) two23)) (cond b (neg two23) two23)) (lt_across m e zer 0 1 some (refl, refl))

-- -0 is its own nearest whole number
minus_zero : (e : ℤ) → T (fits binary32 (fin true 0 e)) → eq (near_whole_of (fin true 0 e)) (fin true 0 e) ≡ true
unfolding fits
minus_zero (pos zero) h = unfold lt eq add sub sum neg round size units odd in refl
minus_zero (pos (suc k)) h = absurd (let p = pow_ge k in let z = eqb→eq (2 ^ suc k * 1) 1 h in omega arith)
minus_zero (negsuc k) h = absurd (let p = pow_ge k in let z = eqb→eq (1 * 2 ^ suc k) 1 h in omega arith)

under : (m : ℕ) (e : ℤ) → lt (fin false m e) two23 ≡ true → m * up e < 8388608 * down e
unfolding lt
under m e p = let h = ltb-true (m * up e * 1) (8388608 * down e) p in omega arith

over_minus : (m : ℕ) (e : ℤ) → lt (neg two23) (fin true m e) ≡ true → m * up e < 8388608 * down e
unfolding lt neg
over_minus m e p = let h = ltb-true (m * up e * 1) (8388608 * down e) p in omega arith

-- the float inside, by its sign
inner : (P : Float → Type 0) → ((m : ℕ) (e : ℤ) → m * up e < 8388608 * down e → P (fin false m e)) → ((m : ℕ) (e : ℤ) → m * up e < 8388608 * down e → P (fin true m e)) → (x : Float)
    → lt x two23 ≡ true → lt (neg two23) x ≡ true → P x
inner P f g nan p q = apart (sym (unfold lt in p))
inner P f g (inf false) p q = apart (sym (unfold lt in p))
inner P f g (inf true) p q = apart (sym (unfold lt neg in q))
inner P f g (fin false m e) p q = f m e (under m e p)
inner P f g (fin true m e) p q = g m e (over_minus m e q)

stays : (x : Float) → T (fits binary32 x) → lt x two23 ≡ true → lt (neg two23) x ≡ true → eq (near_whole_of x) x ≡ true → x ≡ floor_of x
stays x h p q = inner (λ (x : Float). T (fits binary32 x) → eq (near_whole_of x) x ≡ true → x ≡ floor_of x) plus minus x p q h
  where
    plus : (m : ℕ) (e : ℤ) → m * up e < 8388608 * down e → T (fits binary32 (fin false m e)) → eq (near_whole_of (fin false m e)) (fin false m e) ≡ true → fin false m e ≡ floor_of (fin false m e)
    plus m e b h t = multiple false m e (c m e b) (same_size (near_whole_of (fin false m e)) false false m (c m e b) e (rw (plus_is m e) (value m e b)) t)

    minus : (m : ℕ) (e : ℤ) → m * up e < 8388608 * down e → T (fits binary32 (fin true m e)) → eq (near_whole_of (fin true m e)) (fin true m e) ≡ true → fin true m e ≡ floor_of (fin true m e)
    minus zero e b h t = multiple true 0 e 0 (omega arith)
    minus (suc m) e b h t = let P = mul-pos (zero-lt-suc m) (up_pos e) in down_whole (suc m) e b P h (rw (minus_is (suc m) e P) at t)

moves : (x : Float) → T (fits binary32 x) → lt x two23 ≡ true → lt (neg two23) x ≡ true → eq (near_whole_of x) x ≡ false → cond (lt x (near_whole_of x)) (sub binary32 (near_whole_of x) one) (near_whole_of x) ≡ floor_of x
moves x h p q = inner (λ (x : Float). T (fits binary32 x) → eq (near_whole_of x) x ≡ false → cond (lt x (near_whole_of x)) (sub binary32 (near_whole_of x) one) (near_whole_of x) ≡ floor_of x) plus minus x p q h
  where
    by_test : (x y : Float) → (lt x y ≡ true → sub binary32 y one ≡ floor_of x) → (lt x y ≡ false → y ≡ floor_of x) → cond (lt x y) (sub binary32 y one) y ≡ floor_of x
    by_test x y f g = go (lt x y) refl
      where
        go : (b : Bool) → lt x y ≡ b → cond b (sub binary32 y one) y ≡ floor_of x
        go true e = f e
        go false e = g e

    plus : (m : ℕ) (e : ℤ) → m * up e < 8388608 * down e → T (fits binary32 (fin false m e)) → eq (near_whole_of (fin false m e)) (fin false m e) ≡ false → cond (lt (fin false m e) (near_whole_of (fin false m e))) (sub binary32 (near_whole_of (fin false m e)) one) (near_whole_of (fin false m e)) ≡ floor_of (fin false m e)
    plus m e b h t = rw (plus_is m e) (by_test (fin false m e) (shifted (fin false m e)) (up_less m e b h) (up_same m e b h))

    minus : (m : ℕ) (e : ℤ) → m * up e < 8388608 * down e → T (fits binary32 (fin true m e)) → eq (near_whole_of (fin true m e)) (fin true m e) ≡ false → cond (lt (fin true m e) (near_whole_of (fin true m e))) (sub binary32 (near_whole_of (fin true m e)) one) (near_whole_of (fin true m e)) ≡ floor_of (fin true m e)
    minus zero e b h t = apart (sym (minus_zero e h) ∙ t)
    minus (suc m) e b h t = let P = mul-pos (zero-lt-suc m) (up_pos e) in rw (minus_is (suc m) e P) (by_test (fin true (suc m) e) _ (down_less (suc m) e b P h) (down_same (suc m) e b P h))

-- what the program gives, from the nearest whole number
pub found : (x : Float) → T (fits binary32 x) → lt x two23 ≡ true → lt (neg two23) x ≡ true → cond (eq (near_whole_of x) x) x (cond (lt x (near_whole_of x)) (sub binary32 (near_whole_of x) one) (near_whole_of x)) ≡ floor_of x
found x h p q = go (eq (near_whole_of x) x) refl
  where
    go : (b : Bool) → eq (near_whole_of x) x ≡ b → cond b x (cond (lt x (near_whole_of x)) (sub binary32 (near_whole_of x) one) (near_whole_of x)) ≡ floor_of x
    go true t = stays x h p q t
    go false t = moves x h p q t
