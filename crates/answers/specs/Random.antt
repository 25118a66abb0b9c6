-- The generator that inputs are drawn from. Definitions only.
use Rattle.std.specs.Prelude.{ℕ, zero, suc, ◌*◌, ◌/◌, ◌%◌, ◌^◌, bit_xor}

-- a word and itself moved up or down, by exclusive or
abbrev pub with_up : ℕ → ℕ → ℕ
with_up s n = bit_xor s (s * 2 ^ n % 2 ^ 32)

abbrev pub with_down : ℕ → ℕ → ℕ
with_down s n = bit_xor s (s / 2 ^ n)

-- the state after a state of a 32-bit xorshift generator
abbrev pub next_of : ℕ → ℕ
next_of s = with_up (with_down (with_up s 13) 17) 5

-- the state so many draws after a state; the last draw is that state
unfoldable pub after_of : ℕ → ℕ → ℕ
after_of s zero = s
after_of s (suc n) = next_of (after_of s n)
