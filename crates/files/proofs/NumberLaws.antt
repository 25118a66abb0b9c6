-- The number of a record: line by line, and way by way of the code. Assumes nothing.
use mathlib.Core.Path.{◌≡◌}
use mathlib.Core.Bool.{true, false, not, ◌||◌}
use mathlib.Core.List.{List}
use Prim.Native.Nat.{ℕ, ◌+◌, ◌-◌, ◌≤◌, ◌<◌}
use borrow.Author.Tests.{lt-ltb, le-ltb, eq-eqb, ne_eqb}
use lib.ListN.{length}
use Rattle.limits.specs.Lines.{first_of}
use Rattle.files.specs.Format.{cut_short, wrong_length, known_kind, bad_fields, two_at, fields_at, number_at}

module _ (bytes : List ℕ) (at : ℕ) where
  -- the lines, in their order
  pub nine : (cut_short bytes at || wrong_length bytes at) ≡ true → 9 ≡ number_at bytes at
  unfolding number_at first_of
  nine h = rw h

  pub ten : (cut_short bytes at || wrong_length bytes at) ≡ false → not (known_kind (two_at bytes (at + 2))) ≡ true → 10 ≡ number_at bytes at
  unfolding number_at first_of
  ten sound h = rw (sound, h)

  pub eleven : (cut_short bytes at || wrong_length bytes at) ≡ false → not (known_kind (two_at bytes (at + 2))) ≡ false
      → bad_fields (fields_at bytes at) ≡ true → 11 ≡ number_at bytes at
  unfolding number_at first_of
  eleven sound known h = rw (sound, known, h)

  -- the ways
  pub length_cut : length bytes - at < 2 → 9 ≡ number_at bytes at
  unfolding number_at first_of
  length_cut h = rw (lt-ltb _ _ h)

  module _ (some : 2 ≤ length bytes - at) where
    pub body_cut : length bytes - at < 2 + two_at bytes at → 9 ≡ number_at bytes at
    unfolding number_at first_of
    body_cut h = rw (le-ltb _ _ some, lt-ltb _ _ h)

    module _ (all : 2 + two_at bytes at ≤ length bytes - at) where
      pub too_small : two_at bytes at < 2 → 9 ≡ number_at bytes at
      unfolding number_at first_of
      too_small h = rw (le-ltb _ _ some, le-ltb _ _ all, lt-ltb _ _ h)

      module _ (kinded : 2 ≤ two_at bytes at) where
        pub unknown : known_kind (two_at bytes (at + 2)) ≡ false → 10 ≡ number_at bytes at
        unfolding number_at first_of
        unknown h = rw (le-ltb _ _ some, le-ltb _ _ all, le-ltb _ _ kinded, h)

        module _ (known : known_kind (two_at bytes (at + 2)) ≡ true) where
          pub wrong_length_lem : (two_at bytes at ≡ 12 → ⊥) → 9 ≡ number_at bytes at
          unfolding number_at first_of
          wrong_length_lem h = rw (le-ltb _ _ some, le-ltb _ _ all, le-ltb _ _ kinded, known, ne_eqb _ _ h)

          module _ (sized : two_at bytes at ≡ 12) where
            pub bad : bad_fields (fields_at bytes at) ≡ true → 11 ≡ number_at bytes at
            unfolding number_at first_of
            bad h = rw (le-ltb _ _ some, le-ltb _ _ all, le-ltb _ _ kinded, known, eq-eqb _ _ sized, h)

            pub good : bad_fields (fields_at bytes at) ≡ false → 0 ≡ number_at bytes at
            unfolding number_at first_of
            good h = rw (le-ltb _ _ some, le-ltb _ _ all, le-ltb _ _ kinded, known, eq-eqb _ _ sized, h)

-- a record whose length does not fit, and one whose kind is not known
pub ruleset lengths = (length_cut, body_cut, too_small, unknown)
