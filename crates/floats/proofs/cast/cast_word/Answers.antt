-- `floats::cast_word` meets its contract.
use mathlib.Core.Path.{◌≡◌, ap, ◌∙◌}
use Prim.Native.Nat.{ℕ, ◌-◌, ◌%◌, ◌<◌, ◌^◌}
use native.Mathlib.Omega.{arith}
use lib.Ieee.{binary32, of_bits, is_nan}
use mathlib.Core.Bool.{false}
use Rattle.floats.specs.Casts.{cast_word}
use Rattle.floats.proofs.Casts.{word_of_nan, short_lt, short_up, short_down, top_up, top_down}
use Rattle.floats.proofs.Nan.{is_nan_lem, no_nan_T}
use Rattle.floats.proofs.Read.{bits_of, read, bits_lt, read_no_nan}
use Rattle.floats.proofs.cast.cast_word.Goals as goal
use Rattle.floats.proofs.cast.cast_word.Goals.{After-short_part-size, Else-x}

pub returns-then-x : goal.returns-then-x
returns-then-x c = rw (is_nan_lem _ c.if-x.true) word_of_nan

pub float_to_bits-b : goal.float_to_bits-b
float_to_bits-b c = no_nan_T _ c.if-x.false

-- the pattern of x, which is no NaN
abbrev pattern : Else-x → ℕ
pattern c = bits_of c.args.x

fits : (c : Else-x) → pattern c < 4294967296
fits c = bits_lt c.args.x c.well_formed.0.1

number : (c : Else-x) → is_nan (of_bits binary32 (pattern c)) ≡ false
number c = read_no_nan c.args.x c.well_formed.0.1 c.if-x.false

back : (c : Else-x) → cast_word (of_bits binary32 (pattern c)) ≡ cast_word c.args.x
back c = ap cast_word (read c.args.x c.well_formed.0.1)

pub returns-then-b-lt2147483648 : goal.returns-then-b-lt2147483648
returns-then-b-lt2147483648 c = let s = (goal.at.returns-then-b-lt2147483648 c).Else-x in top_up (pattern s) (fits s) (number s) c.if-c-ge1325400064.true c.if-b-lt2147483648.true ∙ back s

pub returns-else-b-lt2147483648 : goal.returns-else-b-lt2147483648
returns-else-b-lt2147483648 c = let s = (goal.at.returns-else-b-lt2147483648 c).Else-x in top_down (pattern s) (fits s) (number s) c.if-c-ge1325400064.true c.if-b-lt2147483648.false ∙ back s

size-lt : (c : After-short_part-size) → c.short_part-size.result < 2 ^ 31
size-lt c =
    let v = c.well_formed.0.1 in
    rw c.short_part-size.ensures (short_lt (bits_of c.args.x) (bits_lt c.args.x v) (read_no_nan c.args.x v c.if-x.false) c.if-c-ge1325400064.false)

pub overflow_cast-up : goal.overflow_cast-up
overflow_cast-up c = omega (arith, size-lt c)

pub overflow_sub-down : goal.overflow_sub-down
overflow_sub-down c = omega (arith, size-lt c)

pub returns-then-b-lt2147483648-2 : goal.returns-then-b-lt2147483648-2
returns-then-b-lt2147483648-2 c =
    let p = (goal.at.returns-then-b-lt2147483648-2 c).After-short_part-size in
    let s = (goal.at.returns-then-b-lt2147483648-2 c).Else-x in
    p.short_part-size.ensures ∙ short_up (pattern s) (fits s) (number s) c.if-c-ge1325400064.false c.if-b-lt2147483648-2.true ∙ back s

pub returns-else-b-lt2147483648-2 : goal.returns-else-b-lt2147483648-2
returns-else-b-lt2147483648-2 c =
    let p = (goal.at.returns-else-b-lt2147483648-2 c).After-short_part-size in
    let s = (goal.at.returns-else-b-lt2147483648-2 c).Else-x in
    ap (λ (z : ℕ). (4294967296 - z) % 4294967296) p.short_part-size.ensures ∙ short_down (pattern s) (fits s) (number s) c.if-c-ge1325400064.false c.if-b-lt2147483648-2.false ∙ back s
