-- Levels that can be followed, and calls of which the answer is known. Assumes nothing.
use mathlib.Core.Path.{◌≡◌, refl}
use mathlib.Core.Bool.{true, false}
use mathlib.Core.List.{List, [], ◌∷◌, map}
use native.Mathlib.Omega.{arith}
use lib.Ieee as Ieee
use lib.Ieee.{Float, nan}
use Rattle.floats.specs.F32.{0f, 1f, ½f}
use Rattle.floats.specs.Sign.{abs_of}
use Rattle.floats.specs.Exp2.{exp2_of}
use Rattle.floats.specs.Steps.{◌>>=◌}
use Rattle.lanes.specs.Lane.{min_of, max_of}
use Rattle.lanes.specs.Maths.{clamp_of}
use Rattle.modes.specs.Choice.{case_of}
use Rattle.modes.specs.Table.{is_distortion, distortion_of}
use Rattle.wave.specs.Curve.{curve_of, hard_clip_curve}
use Rattle.wave.specs.Smooth.{most_of, drive_of, rectified, curved, distort_of}
use Rattle.controls.specs.Controls.{percent_of}
use Rattle.files.specs.Patch.{card_amount}
use Rattle.levels.specs.Levels.{amount_of, within_of, within_at}
use Rattle.levels.specs.Found.{accepted, turned_down, found_of}
use Rattle.levels.specs.Answered.{Searched, least, nowhere}
use Rattle.levels.proofs.AnsweredLaws.{answered}
use Rattle.levels.proofs.WithinLaws.{nan_tolerance}

module _ (sk : List Float) where
  -- Rectify of -1: 0 at half, 1 at the most
  rectified_away : map (within_at sk 28 (Ieee.neg 1f) 0f 0f) (4999 ∷ 5000 ∷ 5001 ∷ []) ≡ false ∷ true ∷ false ∷ []
  unfolding within_at within_of amount_of card_amount percent_of clamp_of min_of max_of distort_of rectified case_of abs_of ◌>>=◌ Ieee.of_bits Ieee.of_int Ieee.round Ieee.neg Ieee.div Ieee.mul Ieee.sub Ieee.add Ieee.le Ieee.lt Ieee.eq
  rectified_away = refl

  rectified_whole : map (within_at sk 28 (Ieee.neg 1f) 1f 0f) (9999 ∷ 10000 ∷ []) ≡ false ∷ true ∷ []
  unfolding within_at within_of amount_of card_amount percent_of clamp_of min_of max_of distort_of rectified case_of abs_of ◌>>=◌ Ieee.of_bits Ieee.of_int Ieee.round Ieee.neg Ieee.div Ieee.mul Ieee.sub Ieee.add Ieee.le Ieee.lt Ieee.eq
  rectified_whole = refl

  -- HardClip of a half: not yet 1 at 2,006 hundredths, 1 at 2,007
  clipped : map (within_at sk 21 ½f 1f 0f) (2006 ∷ 2007 ∷ []) ≡ false ∷ true ∷ []
  unfolding within_at within_of amount_of card_amount percent_of clamp_of min_of max_of distort_of curved curve_of hard_clip_curve drive_of most_of exp2_of case_of abs_of ◌>>=◌ Ieee.of_bits Ieee.of_int Ieee.round Ieee.neg Ieee.div Ieee.mul Ieee.sub Ieee.add Ieee.le Ieee.lt Ieee.eq
  clipped = refl

  searched : Searched 21 13
  searched = record { distortion = unfold is_distortion distortion_of in refl; numbers = omega arith }

  -- HardClip of 0 is 0 at once
  silent : within_at sk 21 0f 0f (Ieee.neg 0f) 0 ≡ true
  unfolding within_at within_of amount_of card_amount percent_of clamp_of min_of max_of distort_of curved curve_of hard_clip_curve drive_of most_of exp2_of case_of abs_of ◌>>=◌ Ieee.of_bits Ieee.of_int Ieee.round Ieee.neg Ieee.div Ieee.mul Ieee.sub Ieee.add Ieee.le Ieee.lt Ieee.eq
  silent = refl

  pub silent_found : found_of sk 13 21 0f 0f (Ieee.neg 0f) ≡ accepted 0
  silent_found =
      (answered sk 13 21 0f 0f (Ieee.neg 0f)).each
      (least searched 0 (record { most = omega arith; there = silent; before = λ i h. absurd (omega arith) }))

  -- and no amount is within a tolerance of NaN
  pub nan_refused : (sample wanted : Float) → found_of sk 13 21 sample wanted nan ≡ turned_down 12
  nan_refused sample wanted = (answered sk 13 21 sample wanted nan).each (nowhere searched (record { nowhere = λ i h. unfold within_at ◌>>=◌ in nan_tolerance _ _ }))
