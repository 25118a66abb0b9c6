-- What the answer means. Assumes nothing.
use mathlib.Core.Path.{◌≡◌, refl, sym, ◌∙◌}
use mathlib.Core.Bool.{Bool, true, false}
use mathlib.Core.List.{List}
use Prim.Native.Nat.{ℕ, ◌≤◌, ◌<◌}
use native.Mathlib.Omega.{arith}
use lib.Dec.{ltb}
use lib.Ieee.{Float}
use borrow.Author.Tests.{ltb-true, ltb-false, lt-ltb, le-ltb}
use Rattle.limits.specs.Search.{least_below, Least}
use Rattle.limits.proofs.SearchLaws.{least_below_lem, one_least}
use Rattle.modes.specs.Table.{is_distortion}
use Rattle.levels.specs.declared.Found.{Found}
use Rattle.levels.specs.Levels.{amounts, within_at}
use Rattle.levels.specs.Found.{searched_of, found_of}
use Rattle.levels.specs.Answered.{LeastAmount, NoAmount, Searched, Situation, other, short, nowhere, least, answer_of, Answered}
use Rattle.levels.proofs.LevelLaws.{other_mode, few_numbers, no_line, serving, none_serving, turned_down_lem, passed}

module _ (mode count : ℕ) (serves : ℕ → Bool) where
  -- by where the search ends
  by_least : Searched mode count → (n : ℕ) → Least amounts serves n → (b : Bool) → ltb n amounts ≡ b → Situation mode count serves
  by_least searched n l true t =
      let below = ltb-true n amounts t in
      least searched n (record { most = omega arith; there = l.there below; before = l.before })
  by_least searched n l false f =
      let past = ltb-false n amounts f in
      nowhere searched (record { nowhere = λ (i : ℕ) (h : i ≤ 10000). l.before i (omega arith) })

  by_count : is_distortion mode ≡ true → (b : Bool) → ltb count 13 ≡ b → Situation mode count serves
  by_count d true t = short d (ltb-true count 13 t)
  by_count d false f =
      by_least (record { distortion = d; numbers = ltb-false count 13 f })
      (least_below amounts serves)
      (least_below_lem amounts serves)
      (ltb (least_below amounts serves) amounts)
      refl

  by_mode : (b : Bool) → is_distortion mode ≡ b → Situation mode count serves
  by_mode true d = by_count d (ltb count 13) refl
  by_mode false d = other d

  -- one of the four is the call's
  pub some_situation : Situation mode count serves
  some_situation = by_mode (is_distortion mode) refl

-- the least amount is where the search ends; where none serves it ends at `amounts`
least_found : (serves : ℕ → Bool) (h : ℕ) → LeastAmount serves h → h ≡ least_below amounts serves
least_found serves h l =
    one_least amounts serves h (least_below amounts serves)
    (record { most = omega (arith, l.most); there = λ b. l.there; before = l.before })
    (least_below_lem amounts serves)

none_found : (serves : ℕ → Bool) → NoAmount serves → amounts ≡ least_below amounts serves
none_found serves n =
    one_least amounts serves amounts (least_below amounts serves)
    (record { most = omega arith; there = λ b. absurd (omega arith); before = λ (i : ℕ) (h : i < 10001). n.nowhere i (omega arith) })
    (least_below_lem amounts serves)

module _ (sk : List Float) (count mode : ℕ) (sample wanted tolerance : Float) where
  abbrev serves : ℕ → Bool
  serves = within_at sk mode sample wanted tolerance

  searched_found : Searched mode count → found_of sk count mode sample wanted tolerance ≡ searched_of serves
  searched_found a = sym (passed sk count mode sample wanted tolerance (sym (no_line mode count a.distortion (le-ltb count 13 a.numbers))) refl)

  as_situation : (c : Situation mode count serves) → found_of sk count mode sample wanted tolerance ≡ answer_of c
  as_situation (other d) =
      sym (turned_down_lem sk count mode sample wanted tolerance (sym (other_mode mode count d)) (λ (z : ◌≡◌ {A = ℕ} 1 0). absurd (omega arith)))
  as_situation (short d few) =
      sym
      (turned_down_lem sk count mode sample wanted tolerance (sym (few_numbers mode count d (lt-ltb count 13 few)))
      (λ (z : ◌≡◌ {A = ℕ} 7 0). absurd (omega arith)))
  as_situation (nowhere searched none) = searched_found searched ∙ sym (none_serving serves (none_found serves none) (omega arith))
  as_situation (least searched h is) = searched_found searched ∙ sym (serving serves (least_found serves h is) (omega (arith, is.most)))

  -- what `amount_for` and the C call answer
  pub answered : Answered mode count serves (found_of sk count mode sample wanted tolerance)
  answered = record { one = some_situation mode count serves; each = as_situation }

-- and nothing else is such an answer
pub one_answer : (mode count : ℕ) (serves : ℕ → Bool) (a b : Found) → Answered mode count serves a → Answered mode count serves b → a ≡ b
one_answer mode count serves a b p q = p.each p.one ∙ sym (q.each p.one)

-- ---- read from the number

-- an accepted answer is the least amount
pub accepted_least : (mode count : ℕ) (serves : ℕ → Bool) (found : Found) → Answered mode count serves found
    → found.number ≡ 0 → LeastAmount serves found.hundredths
accepted_least mode count serves found a z = go a.one (a.each a.one)
  where
    go : (c : Situation mode count serves) → found ≡ answer_of c → LeastAmount serves found.hundredths
    go (other d) e = absurd (let k : ◌≡◌ {A = ℕ} 1 0 = cc in omega arith)
    go (short d few) e = absurd (let k : ◌≡◌ {A = ℕ} 7 0 = cc in omega arith)
    go (nowhere searched none) e = absurd (let k : ◌≡◌ {A = ℕ} 12 0 = cc in omega arith)
    go (least searched h is) e = rw e is

-- and 12 says that no amount serves
pub twelve_nowhere : (mode count : ℕ) (serves : ℕ → Bool) (found : Found) → Answered mode count serves found
    → found.number ≡ 12 → NoAmount serves
twelve_nowhere mode count serves found a z = go a.one (a.each a.one)
  where
    go : (c : Situation mode count serves) → found ≡ answer_of c → NoAmount serves
    go (other d) e = absurd (let k : ◌≡◌ {A = ℕ} 1 12 = cc in omega arith)
    go (short d few) e = absurd (let k : ◌≡◌ {A = ℕ} 7 12 = cc in omega arith)
    go (nowhere searched none) e = none
    go (least searched h is) e = absurd (let k : ◌≡◌ {A = ℕ} 0 12 = cc in omega arith)
