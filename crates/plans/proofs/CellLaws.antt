-- What std writes of a number with a width. Assumes nothing.
use mathlib.Core.Path.{◌≡◌, refl}
use mathlib.Core.Bool.{false}
use mathlib.Core.List.{[], ◌++◌}
use Rattle.std.specs.Prelude.{codes}
use Prim.Native.Nat.{ℕ, ◌-◌, ◌^◌}
use native.Mathlib.Omega.{arith}
use Rattle.std.specs.Fmt.{decimal, format_spec, padded_integral, styled_text, padded, take_chars, char_count}
use Rattle.std.proofs.Padding.{padded_integral_right, repeat_ascii}
use Rattle.plans.specs.Table.{blanks, cell}

pub padded_cell : (width n : ℕ) → padded_integral (format_spec 32 0 0 width (2 ^ 64 - 1)) false [] (decimal n) ≡ cell width n
unfolding cell
padded_cell width n = padded_integral_right (format_spec 32 0 0 width (2 ^ 64 - 1)) (decimal n) refl refl (λ e. absurd cc) (λ e. absurd cc) (omega arith)

pub bytes_label : styled_text (format_spec 32 3 0 48 (2 ^ 64 - 1)) (codes "bytes") ≡ blanks 43 ++ codes "bytes"
unfolding padded take_chars char_count
bytes_label = rw (repeat_ascii 43 32 (omega arith))
