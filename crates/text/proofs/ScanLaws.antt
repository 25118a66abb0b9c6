-- The laws of the scan's steps, each by the tests that lead to it. Assumes nothing.
use mathlib.Core.Path.{◌≡◌}
use mathlib.Core.Bool.{true, false}
use Prim.Native.Nat.{ℕ, ◌+◌, ◌-◌, ◌*◌, ◌≤◌, ◌<◌}
use lib.ListN.{get_or}
use borrow.Author.Tests.{lt-ltb, le-ltb}
use Rattle.text.specs.Decimal.{blank}
use Rattle.text.specs.Scan.{Scan, digit, failed, ended, with_number, scan_byte}

module _ (s : Scan) (b : ℕ) where
  pub blank_ends : blank b ≡ true → ended s ≡ scan_byte s b
  unfolding scan_byte
  blank_ends h = rw h

  pub no_digit_fails : blank b ≡ false → digit b ≡ false → failed s ≡ scan_byte s b
  unfolding scan_byte
  no_digit_fails h d = rw (h, d)

  pub eighth_fails : blank b ≡ false → digit b ≡ true → 7 ≤ s.done → failed s ≡ scan_byte s b
  unfolding scan_byte
  eighth_fails h d full = rw (h, d, le-ltb s.done 7 full)

  pub digit_counts : blank b ≡ false → digit b ≡ true → s.done < 7
      → with_number s (get_or s.values s.done 0 * 10 + (b - 48)) ≡ scan_byte s b
  unfolding scan_byte
  digit_counts h d free = rw (h, d, lt-ltb s.done 7 free)
