-- `floats::exp2` meets its contract: what is read from the pattern of x is x, and `proofs/PowerCases.antt` has the definition in each case.
use mathlib.Core.Path.{◌≡◌, refl, sym, ap, ◌∙◌, subst}
use mathlib.Core.Bool.{Bool, true, false, not}
use native.Mathlib.Omega.{arith}
use lib.Dec.{T}
use lib.IntN.{pos}
use lib.Ieee.{Float, inf, fin, binary32, div, neg, of_bits, is_nan, fits, ne, le, lt}
use Rattle.floats.specs.Exp2.{exp2_of, pow_at, scaled, one28, minus126}
use Rattle.floats.proofs.Nan.{is_nan_lem, no_nan, no_nan_T}
use Rattle.floats.proofs.Patterns.{bits_no_nan}
use Rattle.floats.proofs.Read.{bits_of, read}
use Rattle.floats.proofs.PowerCases.{of_nan, of_large, of_low, of_middle, Middle, middle}
use Rattle.floats.proofs.power.exp2.Goals as goal

-- the program's constants, by their patterns
is-128 : of_bits binary32 1124073472 ≡ one28
unfolding of_bits
is-128 = refl

is-minus-126 : neg (of_bits binary32 1123811328) ≡ minus126
unfolding of_bits neg
is-minus-126 = refl

one-by-zero : div binary32 (of_bits binary32 1065353216) (of_bits binary32 0) ≡ inf false
unfolding div of_bits
one-by-zero = refl

is_zero : of_bits binary32 0 ≡ fin false 0 (pos 0)
unfolding of_bits
is_zero = refl

-- the tests, at the definition's numbers
large : (x : Float) (t : Bool) → le (of_bits binary32 1124073472) x ≡ t → le one28 x ≡ t
large x t h = subst (λ (y : Float). le y x ≡ t) is-128 h

low : (x : Float) (t : Bool) → lt x (neg (of_bits binary32 1123811328)) ≡ t → lt x minus126 ≡ t
low x t h = subst (λ (y : Float). lt x y ≡ t) is-minus-126 h

mid : (x : Float) → fits binary32 x ≡ true → ne x x ≡ false → le (of_bits binary32 1124073472) x ≡ false → lt x (neg (of_bits binary32 1123811328)) ≡ false → Middle (bits_of x)
mid x good a b c =
    let r = sym (read x good) in
    middle (bits_of x)
    (subst (λ (y : Float). is_nan y ≡ false) r (no_nan x a))
    (subst (λ (y : Float). le one28 y ≡ false) r (large x false b))
    (subst (λ (y : Float). lt y minus126 ≡ false) r (low x false c))

pub returns-then-x : goal.returns-then-x
returns-then-x c = subst (λ (x : Float). x ≡ exp2_of x) (sym (is_nan_lem c.args.x c.if-x.true)) of_nan

pub returns-then-x-2 : goal.returns-then-x-2
returns-then-x-2 c =
    let x = c.args.x in
    one-by-zero ∙ sym (of_large x (no_nan x c.if-x.false) (large x true c.if-x-2.true))

pub returns-then-x-3 : goal.returns-then-x-3
returns-then-x-3 c =
    let x = c.args.x in
    is_zero ∙ sym (of_low x (no_nan x c.if-x.false) (large x false c.if-x-2.false) (low x true c.if-x-3.true))

pub float_to_bits-x : goal.float_to_bits-x
float_to_bits-x c = no_nan_T c.args.x c.if-x.false

pub steps-requires : goal.steps-requires
steps-requires c = (mid c.args.x c.well_formed.0.1 c.if-x.false c.if-x-2.false c.if-x-3.false).most

pub power_bits-requires : goal.power_bits-requires
power_bits-requires c =
    let m = mid c.args.x c.well_formed.0.1 c.if-x.false c.if-x-2.false c.if-x-3.false in
    omega (arith, m.low, m.high, c.steps.ensures)

pub float_from_bits-result : goal.float_from_bits-result
float_from_bits-result c = subst (λ (t : Bool). T (not t)) (sym (bits_no_nan c.power_bits.result c.power_bits.ensures.0)) tt

pub returns : goal.returns
returns c =
    let x = c.args.x in
    let m = mid x c.well_formed.0.1 c.if-x.false c.if-x-2.false c.if-x-3.false in
    c.power_bits.ensures.1
    ∙ ap pow_at (c.steps.ensures ∙ sym m.is ∙ ap scaled (read x c.well_formed.0.1))
    ∙ sym (of_middle x (no_nan x c.if-x.false) (large x false c.if-x-2.false) (low x false c.if-x-3.false))
