-- The nearest whole number to an x below 2 ^ 22 in size, by adding and taking off 3 * 2 ^ 22, whatever the sign: it is the one of proofs/Floors.antt. Assumes nothing.
use mathlib.Core.Path.{◌≡◌, refl, sym, ap, ◌∙◌}
use mathlib.Core.Logic.{inl, inr}
use mathlib.Core.Bool.{true, false, cond}
use Prim.Native.Nat.{ℕ, zero, suc, ◌+◌, ◌-◌, ◌*◌, ◌/◌, ◌%◌, ◌^◌, ◌<◌, ◌≤◌, compare}
use native.Mathlib.Nat.{zero-lt-suc, le_of_eq, mul-one, mul-pos, eq-or-lt_of_le, div-lt_iff_lt-mul}
use native.Mathlib.Omega.{arith}
use lib.IntN.{ℤ, pos, negsuc}
use lib.Dec.{T, eqb→eq}
use lib.Ieee.{Float, nan, inf, fin, binary32, up, down, size, units, odd, round, add, sub, sum, neg, lt, eq, fits}
use lib.Ieee.Fits.{down_pos, up_pos, nearest-le}
use lib.Ieee.Exact.{HasValue}
use lib.Ieee.Nearest.{closest}
use borrow.Author.Tests.{lt-ltb, ltb-true}
use Rattle.floats.specs.Floor.{floor_of}
use Rattle.floats.proofs.Closest.{closest_more, closest_less}
use Rattle.floats.proofs.Floors.{near_whole_of, one, t_is, sum_size, plus_is, minus_is, pow_ge, found}
use Rattle.floats.proofs.NearWhole.{near, two23, shifted, sum_value, rounded}
use Rattle.floats.proofs.Values.{apart, sub_round, sub_below, rise_round, fall_round}

abbrev pub two22 : Float
two22 = fin false 1 (pos 22)

abbrev pub three22 : Float
three22 = fin false 3 (pos 22)

abbrev pub by_shift : Float → Float
by_shift x = sub binary32 (add binary32 x three22) three22

sum_plus : (m : ℕ) (e : ℤ) → add binary32 (fin false m e) three22 ≡ round binary32 false (m * up e + 12582912 * down e) (down e)
unfolding add sum
sum_plus m e = rw (mul-one (m * up e), mul-one (down e))

sum_minus : (m : ℕ) (e : ℤ) → m * up e < 12582912 * down e → add binary32 (fin true m e) three22 ≡ round binary32 false (12582912 * down e - m * up e) (down e)
unfolding add sum
sum_minus m e h = rw (mul-one (m * up e), mul-one (down e), lt-ltb (m * up e) (12582912 * down e) h)

module _ (m : ℕ) (e : ℤ) (small : m * up e < 4194304 * down e) where
  abbrev n : ℕ
  n = m * up e

  abbrev d : ℕ
  d = down e

  -- the whole number closest to the size
  abbrev k : ℕ
  k = closest n d

  D : 0 < d
  D = down_pos e

  most : k ≤ 4194304
  most = let q : n / d < 4194304 = (div-lt_iff_lt-mul D).1 small in let l = nearest-le (n / d) (compare (n % d * 2) d) in omega arith

  below : n < 8388608 * d
  below = omega arith

  old : near n d ≡ k + 8388608
  old = closest_more n d 8388608 D refl

  plus_same : by_shift (fin false m e) ≡ shifted (fin false m e)
  plus_same =
      sub_round (add binary32 (fin false m e) three22) three22 C 12582912 value (refl, refl) (omega (arith, new))
      ∙ ap (λ (k : ℕ). round binary32 false k 1) same
      ∙ sym (sub_round (add binary32 (fin false m e) two23) two23 (near n d) 8388608 (sum_value m e below) (refl, refl) (omega (arith, old)))
    where
      C : ℕ
      C = closest (n + 12582912 * d) d

      new : C ≡ k + 12582912
      new = closest_more n d 12582912 D refl

      value : HasValue (add binary32 (fin false m e) three22) false C 1
      value = rw (sum_plus m e) (rounded (n + 12582912 * d) d D (omega arith) (omega (arith, small)) (omega (arith, new, most)))

      same : C - 12582912 ≡ near n d - 8388608
      same = omega (arith, new, old)

  minus_same : 0 < n → T (fits binary32 (fin true m e)) → by_shift (fin true m e) ≡ sub binary32 (add binary32 (fin true m e) (neg two23)) (neg two23)
  minus_same some held = elim (eq-or-lt_of_le (near_least)) [
    | inl z ↦
        sub_round S three22 C 12582912 value (refl, refl) (omega (arith, new, old, z))
        ∙ ap (λ (k : ℕ). round binary32 false k 1) (at_zero z)
        ∙ sym (t_is m e below some held ∙ rise_round (neg O) two23 (near n d) 8388608 (sum_size m e below some held) (refl, refl) (le_of_eq (sym z)))
    | inr l ↦
        sub_below S three22 C 12582912 value (refl, refl) (omega (arith, new, old, l))
        ∙ ap (λ (k : ℕ). round binary32 true k 1) same
        ∙ sym (t_is m e below some held ∙ fall_round (neg O) two23 (near n d) 8388608 (sum_size m e below some held) (refl, refl) l)
  ]
    where
      O : Float
      O = add binary32 (fin false m e) two23

      S : Float
      S = add binary32 (fin true m e) three22

      C : ℕ
      C = closest (12582912 * d - n) d

      new : C + k ≡ 12582912
      new = closest_less n d 12582912 D refl (omega (arith, small))

      near_least : 8388608 ≤ near n d
      near_least = omega (arith, old)

      value : HasValue S false C 1
      value = rw (sum_minus m e (omega (arith, small))) (rounded (12582912 * d - n) d D (omega (arith, small)) (omega (arith, D)) (omega (arith, new)))

      at_zero : 8388608 ≡ near n d → C - 12582912 ≡ 8388608 - near n d
      at_zero z = omega (arith, new, old)

      same : 12582912 - C ≡ near n d - 8388608
      same = omega (arith, new, old)

-- -0, the one float with no size and the sign
zero_same : (e : ℤ) → T (fits binary32 (fin true 0 e)) → by_shift (fin true 0 e) ≡ near_whole_of (fin true 0 e)
unfolding fits
zero_same (pos zero) h = unfold lt eq add sub sum neg round size units odd in refl
zero_same (pos (suc k)) h = absurd (let p = pow_ge k in let z = eqb→eq (2 ^ suc k * 1) 1 h in omega arith)
zero_same (negsuc k) h = absurd (let p = pow_ge k in let z = eqb→eq (1 * 2 ^ suc k) 1 h in omega arith)

-- the float inside, by its sign
under : (m : ℕ) (e : ℤ) → lt (fin false m e) two22 ≡ true → m * up e < 4194304 * down e
unfolding lt
under m e p = let h = ltb-true (m * up e * 1) (4194304 * down e) p in omega arith

over_minus : (m : ℕ) (e : ℤ) → lt (neg two22) (fin true m e) ≡ true → m * up e < 4194304 * down e
unfolding lt neg
over_minus m e p = let h = ltb-true (m * up e * 1) (4194304 * down e) p in omega arith

record Small (x : Float) : Type 0 where
  low : lt (neg two23) x ≡ true
  high : lt x two23 ≡ true
  same : by_shift x ≡ near_whole_of x

small_up : (m : ℕ) (e : ℤ) → m * up e < 4194304 * down e → Small (fin false m e)
unfolding lt neg
small_up m e h =
    record {
      low = lt-ltb 0 (8388608 * down e + m * up e * 1) (let d = down_pos e in omega arith);
      high = lt-ltb (m * up e * 1) (8388608 * down e) (let d = down_pos e in omega arith);
      same = plus_same m e h ∙ sym (plus_is m e);
    }

small_down : (m : ℕ) (e : ℤ) → T (fits binary32 (fin true m e)) → m * up e < 4194304 * down e → Small (fin true m e)
unfolding lt neg
small_down m e held h =
    record {
      low = lt-ltb (m * up e * 1) (8388608 * down e) (let d = down_pos e in omega arith);
      high = lt-ltb 0 (m * up e * 1 + 8388608 * down e) (let d = down_pos e in omega arith);
      same = go m h held;
    }
  where
    go : (m : ℕ) → m * up e < 4194304 * down e → T (fits binary32 (fin true m e)) → by_shift (fin true m e) ≡ near_whole_of (fin true m e)
    go zero h held = zero_same e held
    go (suc m) h held = let P = mul-pos (zero-lt-suc m) (up_pos e) in minus_same (suc m) e h P held ∙ sym (minus_is (suc m) e P)

small : (x : Float) → T (fits binary32 x) → lt x two22 ≡ true → lt (neg two22) x ≡ true → Small x
small nan h p q = apart (sym (unfold lt in p))
small (inf false) h p q = apart (sym (unfold lt in p))
small (inf true) h p q = apart (sym (unfold lt neg in q))
small (fin false m e) h p q = small_up m e (under m e p)
small (fin true m e) h p q = small_down m e h (over_minus m e q)

pub found_small : (x : Float) → T (fits binary32 x) → lt x two22 ≡ true → lt (neg two22) x ≡ true → cond (eq (by_shift x) x) x (cond (lt x (by_shift x)) (sub binary32 (by_shift x) one) (by_shift x)) ≡ floor_of x
found_small x h p q = let s = small x h p q in rw s.same (found x h s.high s.low)
