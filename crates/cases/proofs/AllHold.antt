-- The P cases hold, computed from the definitions. Assumes nothing.
use mathlib.Core.Path.{refl}
use lib.Ieee.{add, sub, mul, div, neg, lt, of_bits, of_int, to_bits}
use Rattle.floats.specs.Steps.{◌>>=◌, when◌then◌else◌}
use Rattle.floats.specs.Casts.{as_signed}
use Rattle.floats.specs.Floor.{floor_of}
use Rattle.floats.specs.Sign.{abs_of, sign_bit}
use Rattle.floats.specs.Exp2.{exp2_of}
use Rattle.lanes.specs.Lane.{min_of, max_of}
use Rattle.lanes.specs.Maths.{above_of, clamp_of}
use Rattle.lanes.specs.Word.{add_words, signed_of}
use Rattle.modes.specs.Choice.{case_of}
use Rattle.modes.specs.Table.{modulated_of}
use Rattle.modes.specs.Totals.{totals}
use Rattle.reads.specs.Reads.{start_of, empty_of, weighted_of, push_of, outgoing_of}
use Rattle.phase.specs.Edge.{unit_of}
use Rattle.phase.specs.Map.{odd_even_map, map_of, mapped, emptied, apply_of}
use Rattle.wave.specs.Curve.{fold_curve, hard_clip_curve, curve_of}
use Rattle.wave.specs.Integral.{beyond_of, hard_clip_integral, integral_of}
use Rattle.wave.specs.Smooth.{most_of, drive_of, driven_of, apart_of, blend_of, smooth_of, distort_smooth}
use Rattle.wave.specs.Slot.{am_of, level_of}
use Rattle.controls.specs.Controls.{percent_of, amount_at, between_rows, source_at}
use Rattle.grid.specs.Functions.{upd, upto}
use Rattle.halfband.specs.Halfband.{input, output, step, chain, frame, mixed, after, out, stage, cascade}
use Rattle.cases.specs.Cases.{cases, Hold}

pub all_hold : Hold cases
unfolding Hold cases totals exp2_of signed_of as_signed unit_of floor_of abs_of sign_bit above_of clamp_of min_of max_of apply_of emptied empty_of start_of mapped map_of case_of odd_even_map weighted_of push_of add_words outgoing_of integral_of hard_clip_integral beyond_of curve_of fold_curve hard_clip_curve distort_smooth driven_of drive_of most_of smooth_of apart_of blend_of level_of modulated_of am_of percent_of amount_at between_rows source_at when◌then◌else◌ upd upto input output step chain frame mixed after out stage cascade ◌>>=◌ add sub mul div neg lt of_bits of_int to_bits
all_hold = (refl, (refl, (refl, (refl, (refl, (refl, (refl, (refl, (refl, (refl, (refl, (refl, (refl, tt)))))))))))))
