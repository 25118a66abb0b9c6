-- The laws of the table of refusals: what a call that passes a line has. Assumes nothing.
use mathlib.Core.Path.{◌≡◌, refl, ◌∙◌}
use mathlib.Core.Bool.{Bool, true, false, cond, not, ◌||◌}
use mathlib.Core.List.{List, [], ◌∷◌}
use Prim.Native.Nat.{ℕ, zero, suc, ◌+◌, ◌*◌, ◌≤◌, ◌<◌}
use native.Mathlib.Omega.{arith}
use lib.Dec.{ltb, eqb}
use lib.ListN.{length, get_or, drop, drop_of_length-le}
use borrow.Author.Tests.{ltb-true, ltb-false, le-ltb, ne_eqb, eqb-true, not-false}
use Rattle.limits.specs.declared.refusal.Refusal.{Refusal}
use Rattle.limits.specs.Refusals.{line_of, number_of, numbered}
use Rattle.std.specs.Prelude.{Result, Ok, Err}
use Rattle.std.specs.Result.{IsErrAnd}
use Rattle.limits.specs.Lines.{first_of, number_lines, bad_factor, bad_lanes, bad_lane, bad_frames, bad_range, bad_frame, bad_asked, bad_points, bad_rate, bad_count, bad_counts}

-- ---- any table

-- a line that does not hold, and the lines below it
pub first_passed : (t : Bool) (m : ℕ) (lines : List (Bool × ℕ)) → first_of ((t, suc m) ∷ lines) ≡ 0
    → (t ≡ false) × (first_of lines ≡ 0)
unfolding first_of
first_passed true m lines e = absurd (omega arith)
first_passed false m lines e = (refl, e)

pub or_false : (a b : Bool) → (a || b) ≡ false → (a ≡ false) × (b ≡ false)
or_false true b e = absurd (let z : ◌≡◌ {A = ℕ} 0 1 = cc in omega arith)
or_false false b e = (refl, e)

-- ---- lines 1 to 6, and then 7 and 8

module _ (a b c d e f : Bool) where
  -- the whole table, of which lines 1 to 6 are the first
  abbrev pub all_lines : Bool → Bool → List (Bool × ℕ)
  all_lines g h = (a, 1) ∷ (b, 2) ∷ (c, 3) ∷ (d, 4) ∷ (e, 5) ∷ (f, 6) ∷ (g, 7) ∷ (h, 8) ∷ []

  -- none of lines 1 to 6 holds
  pub record Numbers : Type 0 where
    pub modes : a ≡ false
    pub factor : b ≡ false
    pub lanes : c ≡ false
    pub frames : d ≡ false
    pub rate : e ≡ false
    pub counts : f ≡ false

  -- nor 7 nor 8
  pub record NoLine (g h : Bool) : Type 0 where
    pub numbers : Numbers
    pub read : g ≡ false
    pub written : h ≡ false

  pub no_line : (g h : Bool) → first_of (all_lines g h) ≡ 0 → NoLine g h
  no_line g h z =
      let p1 = first_passed a 0 _ z in
      let p2 = first_passed b 1 _ p1.1 in
      let p3 = first_passed c 2 _ p2.1 in
      let p4 = first_passed d 3 _ p3.1 in
      let p5 = first_passed e 4 _ p4.1 in
      let p6 = first_passed f 5 _ p5.1 in
      let p7 = first_passed g 6 _ p6.1 in
      let p8 = first_passed h 7 _ p7.1 in
      record {
        numbers = record { modes = p1.0; factor = p2.0; lanes = p3.0; frames = p4.0; rate = p5.0; counts = p6.0 };
        read = p7.0;
        written = p8.0;
      }

  pub numbers_passed : first_of (number_lines a b c d e f) ≡ 0 → Numbers
  unfolding first_of
  numbers_passed z = (no_line false false z).numbers

-- the number by lines 1 to 6, and where none of them holds by lines 7 and 8, as code goes through the table
abbrev pub then_lengths : ℕ → Bool → Bool → ℕ
then_lengths number g h = cond (eqb number 0) (cond g 7 (cond h 8 0)) number

pub whole_table : (a b c d e f g h : Bool) → first_of (all_lines a b c d e f g h) ≡ then_lengths (first_of (number_lines a b c d e f)) g h
unfolding first_of
whole_table true b c d e f g h = refl
whole_table false true c d e f g h = refl
whole_table false false true d e f g h = refl
whole_table false false false true e f g h = refl
whole_table false false false false true f g h = refl
whole_table false false false false false true g h = refl
whole_table false false false false false false g h = refl

-- ---- the lines

-- what holds of the four factors
pub the_factor : (P : ℕ → Type 0) → P 1 → P 2 → P 4 → P 8 → (factor : ℕ) → bad_factor factor ≡ false → P factor
the_factor P p1 p2 p4 p8 factor = go (eqb factor 1) (eqb factor 2) (eqb factor 4) (eqb factor 8) refl refl refl refl
  where
    go : (a b c d : Bool) → eqb factor 1 ≡ a → eqb factor 2 ≡ b → eqb factor 4 ≡ c → eqb factor 8 ≡ d
        → bad_factor factor ≡ false → P factor
    go true b c d ea eb ec ed h = rw (eqb-true factor 1 ea) p1
    go false true c d ea eb ec ed h = rw (eqb-true factor 2 eb) p2
    go false false true d ea eb ec ed h = rw (eqb-true factor 4 ec) p4
    go false false false true ea eb ec ed h = rw (eqb-true factor 8 ed) p8
    go false false false false ea eb ec ed h =
        absurd (let k : true ≡ false = rw (ea, eb, ec, ed) at h in let z : ◌≡◌ {A = ℕ} 0 1 = cc in omega arith)

pub small_factor : (factor : ℕ) → bad_factor factor ≡ false → (1 ≤ factor) × (factor ≤ 8)
small_factor =
    the_factor (λ (f : ℕ). (1 ≤ f) × (f ≤ 8))
    (omega arith, omega arith)
    (omega arith, omega arith)
    (omega arith, omega arith)
    (omega arith, omega arith)

pub good_lanes : (n active : ℕ) → bad_lanes n active ≡ false → (1 ≤ n) × (n ≤ 64) × (active ≤ n)
good_lanes n active e =
    let p = or_false (ltb n 1 || ltb 64 n) (ltb n active) e in
    let q = or_false (ltb n 1) (ltb 64 n) p.0 in
    (ltb-false n 1 q.0, ltb-false 64 n q.1, ltb-false n active p.1)

pub good_lane : (n active lane : ℕ) → bad_lane n active lane ≡ false → (1 ≤ n) × (n ≤ 64) × (active ≤ n) × (lane < active)
good_lane n active lane e =
    let p = or_false (bad_lanes n active) (not (ltb lane active)) e in
    let lanes = good_lanes n active p.0 in
    (lanes.0, lanes.1, lanes.2, ltb-true lane active (not-false (ltb lane active) p.1))

pub good_frames : (f : ℕ) → bad_frames f ≡ false → f ≤ 4096
good_frames f e = ltb-false 4096 f e

pub good_range : (frames first count : ℕ) → bad_range frames first count ≡ false → (frames ≤ 4096) × (first + count ≤ frames)
good_range frames first count e =
    let p = or_false (bad_frames frames) (ltb frames (first + count)) e in
    (good_frames frames p.0, ltb-false frames (first + count) p.1)

pub in_range : (frames first count : ℕ) → frames ≤ 4096 → first + count ≤ frames → bad_range frames first count ≡ false
in_range frames first count few fit = rw (le-ltb 4096 frames few, le-ltb frames (first + count) fit)

pub good_frame : (factor frames first count frame : ℕ) → bad_frame factor frames first count frame ≡ false
    → (frames ≤ 4096) × (first + count ≤ frames) × (frame < count * factor)
good_frame factor frames first count frame e =
    let p = or_false (bad_range frames first count) (not (ltb frame (count * factor))) e in
    let range = good_range frames first count p.0 in
    (range.0, range.1, ltb-true frame (count * factor) (not-false (ltb frame (count * factor)) p.1))

pub good_asked : (factor frames first count from asked : ℕ) → bad_asked factor frames first count from asked ≡ false
    → (frames ≤ 4096) × (first + count ≤ frames) × (from < count * factor) × (from + asked ≤ count * factor)
good_asked factor frames first count from asked e =
    let p = or_false (bad_frame factor frames first count from) (ltb (count * factor) (from + asked)) e in
    let frame = good_frame factor frames first count from p.0 in
    (frame.0, frame.1, frame.2, ltb-false (count * factor) (from + asked) p.1)

pub good_points : (points : ℕ) → bad_points points ≡ false → points ≤ 4096
good_points points e = ltb-false 4096 points e

pub good_rate : (rate : ℕ) → bad_rate rate ≡ false → (8000 ≤ rate) × (rate ≤ 192000)
good_rate rate e =
    let p = or_false (ltb rate 8000) (ltb 192000 rate) e in
    (ltb-false rate 8000 p.0, ltb-false 192000 rate p.1)

pub good_count : (count : ℕ) → bad_count count ≡ false → (1 ≤ count) × (count ≤ 12)
good_count count e =
    let p = or_false (ltb count 1) (ltb 12 count) e in
    (ltb-false count 1 p.0, ltb-false 12 count p.1)

pub good_counts : (a b c : ℕ) → bad_counts a b c ≡ false → (a ≤ 12) × (b ≤ 12) × (c ≤ 12)
good_counts a b c e =
    let p = or_false (bad_count a || bad_count b) (bad_count c) e in
    let q = or_false (bad_count a) (bad_count b) p.0 in
    ((good_count a q.0).1, (good_count b q.1).1, (good_count c p.1).1)

-- ---- a table that is gone through line by line

pub first_of-drop : (lines : List (Bool × Refusal)) (i : ℕ) (d : Bool × Refusal) → i < length lines
    → first_of (numbered (drop i lines)) ≡ cond (get_or lines i d).0 (line_of (get_or lines i d).1) (first_of (numbered (drop (i + 1) lines)))
unfolding first_of
first_of-drop [] i d h = absurd (omega arith)
first_of-drop (line ∷ lines) zero d h = refl
first_of-drop (line ∷ lines) (suc i) d h = let e : suc i + 1 ≡ suc (i + 1) = omega arith in rw e (first_of-drop lines i d (omega arith))

pub first_of_none : (lines : List (Bool × Refusal)) (i : ℕ) → length lines ≤ i → first_of (numbered (drop i lines)) ≡ 0
unfolding first_of
first_of_none lines i h = rw (drop_of_length-le lines h)

-- ---- outcomes

-- a refusal's number is not that of an accepted call
pub some_line : (r : Refusal) → 0 < line_of r
unfolding line_of
some_line Refusal.Mode = omega arith
some_line Refusal.Factor = omega arith
some_line Refusal.Lanes = omega arith
some_line Refusal.Frames = omega arith
some_line Refusal.Rate = omega arith
some_line Refusal.Design = omega arith
some_line Refusal.ShortRead = omega arith
some_line Refusal.ShortWrite = omega arith
some_line Refusal.Length = omega arith
some_line Refusal.Kind = omega arith
some_line Refusal.Field = omega arith
some_line Refusal.NoAmount = omega arith

pub some_number : (e : Refusal) → number_of {A = Unit {0}} (Err e) ≡ 0 → ⊥
unfolding number_of
some_number e z = omega (arith, some_line e)

-- what `?` hands on has the number of what it met
pub handed_on : {A : Type 0} (r : Result A Refusal) (e : Refusal) → IsErrAnd r (λ x. x ≡ e) → number_of r ≡ number_of {A = Unit {0}} (Err e)
unfolding number_of
handed_on (Ok x) e h = absurd h
handed_on (Err x) e h = rw h

-- and turned down by lines 1 to 6, a call is turned down by the whole table
pub by_numbers : {A : Type 0} (r : Result A Refusal) (e : Refusal) (number : ℕ) (g h : Bool) → IsErrAnd r (λ x. x ≡ e)
    → number_of {A = Unit {0}} (Err e) ≡ number → number_of r ≡ then_lengths number g h
by_numbers r e number g h handed is = rw (ne_eqb number 0 (λ z. some_number e (is ∙ z))) (handed_on r e handed ∙ is)

-- lines 7 and 8 alone, for a call that lines 1 to 6 let pass
pub last_lines : (g h : Bool) → first_of (numbered ((g, Refusal.ShortRead) ∷ (h, Refusal.ShortWrite) ∷ [])) ≡ then_lengths 0 g h
unfolding first_of line_of
last_lines g h = refl
