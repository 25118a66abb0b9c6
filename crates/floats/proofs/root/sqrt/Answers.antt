-- `floats::sqrt` meets its contract: what is read from the pattern of x is x, and `proofs/RootCases.antt` has the definition at each kind of pattern.
use mathlib.Core.Path.{◌≡◌, refl, sym, ap, ◌∙◌, subst}
use mathlib.Core.Logic.{inl, inr}
use mathlib.Core.Bool.{false}
use Prim.Native.Nat.{ℕ, ◌+◌, ◌-◌, ◌*◌, ◌/◌, ◌%◌, ◌^◌, ◌<◌}
use native.Mathlib.Nat.{mul-pos, eq-or-lt_of_le}
use native.Mathlib.Omega.{arith}
use lib.Pow.{pow_pos}
use lib.Ieee.{Float, nan, binary32, div, of_bits}
use lib.Ieee.Exact.{HasValue}
use Rattle.floats.specs.Sqrt.{sqrt_of, IsRoot}
use Rattle.floats.proofs.Nan.{is_nan_lem, no_nan_T}
use Rattle.floats.proofs.Patterns.{bits_no_nan}
use Rattle.floats.proofs.Read.{bits_of, read, bits_lt}
use Rattle.floats.proofs.RootCases.{of_nan, of_zero, of_minus_zero, of_infinity, of_sign, of_subnormal, of_normal, is_root}
use Rattle.floats.proofs.RootPatterns.{read_root}
use Rattle.floats.proofs.root.sqrt.Goals as goal
use Rattle.floats.proofs.root.sqrt.Goals.{Start}

reads : (c : Start) → of_bits binary32 (bits_of c.args.x) ≡ c.args.x
reads c = read c.args.x c.well_formed.0.1

-- x is read from b, so what is shown of the f32 with the pattern b holds of x
at : (c : Start) (b : ℕ) → bits_of c.args.x ≡ b → of_bits binary32 b ≡ sqrt_of (of_bits binary32 b) → c.args.x ≡ sqrt_of c.args.x
at c b e h = subst (λ (x : Float). x ≡ sqrt_of x) (ap (λ (n : ℕ). of_bits binary32 n) (sym e) ∙ reads c) h

-- the second clause, of an r that is the definition's
squares : (x r : Float) → r ≡ sqrt_of x → (n : ℕ) → 0 < n → HasValue x false n (2 ^ 149) → IsRoot n r
squares x r e n p h = subst (IsRoot n) (sym e) (is_root x n p h)

pub returns-then-x : goal.returns-then-x
returns-then-x c =
    let e = subst (λ (x : Float). x ≡ sqrt_of x) (sym (is_nan_lem c.args.x c.if-x.true)) of_nan in
    record { value = e; squares = squares c.args.x c.args.x e }

pub float_to_bits-b : goal.float_to_bits-b
float_to_bits-b c = no_nan_T c.args.x c.if-x.false

pub float_from_bits-result : goal.float_from_bits-result
float_from_bits-result c = rw (bits_no_nan c.root_bits.result c.root_bits.ensures.most) tt

pub returns-then-b-ge8388608 : goal.returns-then-b-ge8388608
returns-then-b-ge8388608 c =
    let s = (goal.at.returns-then-b-ge8388608 c).Start in
    let r = c.root_bits in
    let e : of_bits binary32 r.result ≡ sqrt_of c.args.x =
    read_root ((8388608 + bits_of s.args.x % 8388608) * 2 ^ (bits_of s.args.x / 8388608 - 1)) r.result (mul-pos (omega arith) (pow_pos (bits_of s.args.x / 8388608 - 1))) (omega (arith, r.ensures.least)) r.ensures.most r.ensures.squares
    ∙ sym (of_normal (bits_of s.args.x) c.if-b-ge8388608.true c.if-b-lt2139095040.true)
    ∙ ap sqrt_of (reads s) in
    record { value = e; squares = squares c.args.x _ e }

pub float_from_bits-result-then-b-gt0 : goal.float_from_bits-result-then-b-gt0
float_from_bits-result-then-b-gt0 c = rw (bits_no_nan c.small_root_bits.result c.small_root_bits.ensures.0) tt

pub returns-then-b-gt0 : goal.returns-then-b-gt0
returns-then-b-gt0 c =
    let s = (goal.at.returns-then-b-gt0 c).Start in
    let e : of_bits binary32 c.small_root_bits.result ≡ sqrt_of c.args.x = c.small_root_bits.ensures.1 ∙ sym (of_subnormal (bits_of s.args.x) c.if-b-gt0.true c.if-b-ge8388608.false) ∙ ap sqrt_of (reads s) in
    record { value = e; squares = squares c.args.x _ e }

pub returns-then-b-lt2139095040 : goal.returns-then-b-lt2139095040
returns-then-b-lt2139095040 c =
    let e = at (goal.at.returns-then-b-lt2139095040 c).Start 0 (omega (arith, c.if-b-gt0.false)) of_zero in
    record { value = e; squares = squares c.args.x c.args.x e }

zero_by_zero : div binary32 (of_bits binary32 0) (of_bits binary32 0) ≡ nan
unfolding div of_bits
zero_by_zero = refl

pub returns-then-b-gt2147483648 : goal.returns-then-b-gt2147483648
returns-then-b-gt2147483648 c =
    let s = (goal.at.returns-then-b-gt2147483648 c).Start in
    let e : div binary32 (of_bits binary32 0) (of_bits binary32 0) ≡ sqrt_of c.args.x = zero_by_zero ∙ sym (of_sign (bits_of s.args.x) c.if-b-gt2147483648.true (bits_lt s.args.x s.well_formed.0.1)) ∙ ap sqrt_of (reads s) in
    record { value = e; squares = squares c.args.x _ e }

pub returns : goal.returns
returns c =
    let s = (goal.at.returns c).Start in
    let e : c.args.x ≡ sqrt_of c.args.x = elim (eq-or-lt_of_le c.if-b-gt2147483648.false) [
      | inl q ↦ at s 2147483648 q of_minus_zero
      | inr l ↦ at s (bits_of s.args.x) refl (of_infinity (bits_of s.args.x) c.if-b-lt2139095040.false l)
    ] in
    record { value = e; squares = squares c.args.x c.args.x e }
