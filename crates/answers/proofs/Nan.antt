-- Every NaN is one float, with one pattern. Assumes nothing.
use Rattle.std.proofs.Common.{◌≡◌, ℕ, ◌%◌, ◌<◌, true, sym, refl, ◌∙◌, true≢false, lt-ltb}
use lib.Ieee.{Float, nan, inf, fin, binary32, of_bits, to_bits, is_nan}
use lib.Ieee.Bits.{nan_bits_above, nan_bits_is}

the_nan : (x : Float) → is_nan x ≡ true → x ≡ nan
unfolding is_nan
the_nan nan e = refl
the_nan (inf s) e = absurd (true≢false (sym e))
the_nan (fin s m k) e = absurd (true≢false (sym e))

nan_of : (b : ℕ) → 2139095040 < b % 2147483648 → of_bits binary32 b ≡ nan
nan_of b h = the_nan _ (sym (nan_bits_is binary32 b) ∙ nan_bits_above binary32 b ∙ lt-ltb 2139095040 (b % 2147483648) h)

pub one_nan : (b : ℕ) → 2139095040 < b % 2147483648 → of_bits binary32 2143289344 ≡ of_bits binary32 b
unfolding of_bits
one_nan b h = sym (nan_of b h)

pub one_pattern : (x : Float) → is_nan x ≡ true → 2143289344 ≡ to_bits binary32 x
unfolding to_bits
one_pattern x e = rw (the_nan x e)
