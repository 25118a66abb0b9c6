-- `floats::steps` meets its contract.
use mathlib.Core.Path.{◌≡◌, sym, ap, ◌∙◌, subst}
use mathlib.Core.Bool.{Bool, true, false, cond}
use Prim.Native.Nat.{ℕ, ◌+◌, ◌-◌, ◌*◌, ◌/◌, ◌%◌, ◌^◌, ◌≤◌, ◌<◌, min}
use native.Mathlib.Nat.{le_trans, le_of_eq, mod-eq_of_lt, div-lt_iff_lt-mul}
use native.Mathlib.Omega.{arith}
use lib.Dec.{leb}
use lib.Pow.{pow_pos, pow_mono}
use Rattle.floats.specs.Pattern.{significand_of, exponent_of}
use Rattle.floats.specs.Promises.{steps_of}
use Rattle.floats.proofs.Shifts.{exponent_le, plus, minus, room}
use Rattle.floats.proofs.Patterns.{significand_lt}
use Rattle.floats.proofs.power.steps.Goals as goal
use Rattle.floats.proofs.power.steps.Goals.{After-drop_of-s}

-- what the body's numbers are, from m and s as the calls give them
record Facts (b m s : ℕ) : Type 0 where
  fits : (8388608 * 2 ^ s) % 2 ^ 64 + m < 2 ^ 64
  room : m ≤ (8388608 * 2 ^ s) % 2 ^ 64
  is : cond (leb 2147483648 b) ((8388608 * 2 ^ s) % 2 ^ 64 - m) ((8388608 * 2 ^ s) % 2 ^ 64 + m) / 2 ^ s ≡ steps_of b
  small : steps_of b < 2 ^ 32

abbrev cut : ℕ → ℕ
cut b = min 25 (133 - exponent_of b)

base : (b : ℕ) → significand_of b * 2 ^ exponent_of b ≤ 8388608 * 2 ^ 133 → Facts b (significand_of b) (cut b)
unfolding steps_of
base b H =
    let w = 8388608 * 2 ^ cut b in
    let few : 2 ^ cut b ≤ 33554432 = pow_mono {i = cut b} {j = 25} (omega arith) in
    let e : w % 2 ^ 64 ≡ w = mod-eq_of_lt (omega arith) in
    let M : significand_of b < 16777216 = significand_lt b in
    let J = exponent_le b H in
    record {
      fits = omega arith;
      room = le_trans (room (significand_of b) (exponent_of b) M J H) (le_of_eq (sym e));
      is =
          ap (λ (x : ℕ). cond (leb 2147483648 b) (x - significand_of b) (x + significand_of b) / 2 ^ cut b) e
          ∙ by_sign (leb 2147483648 b) (w - significand_of b) (w + significand_of b) (2 ^ cut b) _ _ (minus (significand_of b) (exponent_of b) M J) (plus (significand_of b) (exponent_of b) M J);
      small = under (leb 2147483648 b) (significand_of b * 2 ^ exponent_of b) (2 ^ 133) (pow_pos 133) H;
    }
  where
    by_sign : (t : Bool) (a c d u v : ℕ) → a / d ≡ u → c / d ≡ v → cond t a c / d ≡ cond t u v
    by_sign true a c d u v p q = p
    by_sign false a c d u v p q = q

    under : (t : Bool) (n D : ℕ) → 0 < D → n ≤ 8388608 * D → cond t ((8388608 * D - n) / D) ((8388608 * D + n) / D) < 2 ^ 32
    under true n D p h = (div-lt_iff_lt-mul p).1 (omega arith)
    under false n D p h = (div-lt_iff_lt-mul p).1 (omega arith)

here : (c : After-drop_of-s) → Facts c.args.b c.significand-m.result c.drop_of-s.result
here c =
    let b = c.args.b in
    subst (λ (m : ℕ). Facts b m c.drop_of-s.result) (sym c.significand-m.ensures)
    (subst (λ (s : ℕ). Facts b (significand_of b) s) (sym (c.drop_of-s.ensures ∙ ap (λ (j : ℕ). min 25 (133 - j)) c.exponent-j.ensures)) (base b c.requires))

pub drop_of-s-requires : goal.drop_of-s-requires
drop_of-s-requires c = omega (arith, exponent_le c.args.b c.requires)

pub moved-requires : goal.moved-requires
moved-requires c = ((here c).fits, (here c).room)

total : (b m s n : ℕ) → Facts b m s → n ≡ cond (leb 2147483648 b) ((8388608 * 2 ^ s) % 2 ^ 64 - m) ((8388608 * 2 ^ s) % 2 ^ 64 + m) → n / 2 ^ s ≡ steps_of b
total b m s n f e = ap (λ (n : ℕ). n / 2 ^ s) e ∙ f.is

pub returns : goal.returns
returns c = total c.args.b c.significand-m.result c.drop_of-s.result c.moved.result (here (goal.at.returns c).After-drop_of-s) c.moved.ensures
