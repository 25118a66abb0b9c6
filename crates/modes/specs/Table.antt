-- The facts of every mode, as `impl Mode` of mod.rs has them: one table, in the order of `Mode`. Definitions only.
use Rattle.std.specs.Prelude.{ℕ, Bool, true, false, List, [], ◌∷◌, map, get_or, Option, Some, None, Result, Ok, Err}
use Rattle.modes.specs.Mode.{Mode, number_of, Off, Sync, PinchIn, PinchOut, Pinch, PulseWidth, LeanRight, LeanLeft, Lean, Flip, Mirror, RemapDrawn, RemapMirrored, RemapSine, RemapQuad, Quantise, OddEven, LowPass, HighPass, Valve, SoftClip, HardClip, Diode1, Diode2, Fold, SineFold, ZeroSquare, Asymmetric, Rectify, SineShaper, Pedal, Tape, SoftSaturate, Fm1, Fm2, FmNoise, FmSub, FmFilter1, FmFilter2, FmExp1, FmExp2, FmExpNoise, FmExpSub, FmExpFilter1, FmExpFilter2, FmLin1, FmLin2, FmLinNoise, FmLinSub, FmLinFilter1, FmLinFilter2, Pd1, Pd2, PdNoise, PdSub, PdFilter1, PdFilter2, PdSelf, Am1, Am2, AmNoise, AmSub, AmFilter1, AmFilter2, Rm1, Rm2, RmNoise, RmSub, RmFilter1, RmFilter2}
use Rattle.std.specs.Result.{result_unwrap_or}
use Rattle.limits.specs.declared.refusal.Refusal.{Refusal}
use Rattle.modes.specs.declared.facts.Source.{Source}
use Rattle.modes.specs.declared.facts.Source.TheVariants.{Osc1, Osc2, Noise, Sub, Filter1, Filter2, Own}
use Rattle.modes.specs.declared.facts.FmType.{FmType}
use Rattle.modes.specs.declared.facts.FmType.TheVariants.{ThruZero, Exponential, Linear}
use Rattle.modes.specs.declared.facts.Modulated.{Modulated}
use Rattle.modes.specs.declared.facts.Modulated.TheVariants.{Fm, PhaseDistortion, Am, Ring}
use Rattle.modes.specs.declared.facts.Stage.{Stage}
use Rattle.modes.specs.declared.facts.Stage.TheVariants.{Phase, Wave}

pub record Row : Type 0 where
  pub mode : Mode
  pub source : Option Source
  pub fm_type : Option FmType
  pub modulated : Option Modulated
  pub stage : Stage
  pub oversampled : Bool
  pub distortion : Bool

abbrev row : Mode → Option Source → Option FmType → Option Modulated → Stage → Bool → Bool → Row
row m s f u t o d = record { mode = m; source = s; fm_type = f; modulated = u; stage = t; oversampled = o; distortion = d }

-- mode, source, fm_type, modulated, stage, oversampled, distortion
unfoldable pub modes : List Row
modes =
    row Off None None None Stage.Off false false ∷
    row Sync None None None Phase true false ∷
    row PinchIn None None None Phase true false ∷
    row PinchOut None None None Phase true false ∷
    row Pinch None None None Phase true false ∷
    row PulseWidth None None None Phase true false ∷
    row LeanRight None None None Phase true false ∷
    row LeanLeft None None None Phase true false ∷
    row Lean None None None Phase true false ∷
    row Flip None None None Phase true false ∷
    row Mirror None None None Phase true false ∷
    row RemapDrawn None None None Phase true false ∷
    row RemapMirrored None None None Phase true false ∷
    row RemapSine None None None Phase true false ∷
    row RemapQuad None None None Phase true false ∷
    row Quantise None None None Phase true false ∷
    row OddEven None None None Phase false false ∷
    row LowPass None None None Wave false false ∷
    row HighPass None None None Wave false false ∷
    row Valve None None None Wave true true ∷
    row SoftClip None None None Wave true true ∷
    row HardClip None None None Wave true true ∷
    row Diode1 None None None Wave true true ∷
    row Diode2 None None None Wave true true ∷
    row Fold None None None Wave true true ∷
    row SineFold None None None Wave true true ∷
    row ZeroSquare None None None Wave true true ∷
    row Asymmetric None None None Wave true true ∷
    row Rectify None None None Wave true true ∷
    row SineShaper None None None Wave true true ∷
    row Pedal None None None Wave true true ∷
    row Tape None None None Wave true true ∷
    row SoftSaturate None None None Wave true true ∷
    row Fm1 (Some Osc1) (Some ThruZero) (Some (Fm ThruZero)) Phase true false ∷
    row Fm2 (Some Osc2) (Some ThruZero) (Some (Fm ThruZero)) Phase true false ∷
    row FmNoise (Some Noise) (Some ThruZero) (Some (Fm ThruZero)) Phase true false ∷
    row FmSub (Some Sub) (Some ThruZero) (Some (Fm ThruZero)) Phase true false ∷
    row FmFilter1 (Some Filter1) (Some ThruZero) (Some (Fm ThruZero)) Phase true false ∷
    row FmFilter2 (Some Filter2) (Some ThruZero) (Some (Fm ThruZero)) Phase true false ∷
    row FmExp1 (Some Osc1) (Some Exponential) (Some (Fm Exponential)) Phase true false ∷
    row FmExp2 (Some Osc2) (Some Exponential) (Some (Fm Exponential)) Phase true false ∷
    row FmExpNoise (Some Noise) (Some Exponential) (Some (Fm Exponential)) Phase true false ∷
    row FmExpSub (Some Sub) (Some Exponential) (Some (Fm Exponential)) Phase true false ∷
    row FmExpFilter1 (Some Filter1) (Some Exponential) (Some (Fm Exponential)) Phase true false ∷
    row FmExpFilter2 (Some Filter2) (Some Exponential) (Some (Fm Exponential)) Phase true false ∷
    row FmLin1 (Some Osc1) (Some Linear) (Some (Fm Linear)) Phase true false ∷
    row FmLin2 (Some Osc2) (Some Linear) (Some (Fm Linear)) Phase true false ∷
    row FmLinNoise (Some Noise) (Some Linear) (Some (Fm Linear)) Phase true false ∷
    row FmLinSub (Some Sub) (Some Linear) (Some (Fm Linear)) Phase true false ∷
    row FmLinFilter1 (Some Filter1) (Some Linear) (Some (Fm Linear)) Phase true false ∷
    row FmLinFilter2 (Some Filter2) (Some Linear) (Some (Fm Linear)) Phase true false ∷
    row Pd1 (Some Osc1) None (Some PhaseDistortion) Phase true false ∷
    row Pd2 (Some Osc2) None (Some PhaseDistortion) Phase true false ∷
    row PdNoise (Some Noise) None (Some PhaseDistortion) Phase true false ∷
    row PdSub (Some Sub) None (Some PhaseDistortion) Phase true false ∷
    row PdFilter1 (Some Filter1) None (Some PhaseDistortion) Phase true false ∷
    row PdFilter2 (Some Filter2) None (Some PhaseDistortion) Phase true false ∷
    row PdSelf (Some Own) None (Some PhaseDistortion) Phase true false ∷
    row Am1 (Some Osc1) None (Some Am) Wave true false ∷
    row Am2 (Some Osc2) None (Some Am) Wave true false ∷
    row AmNoise (Some Noise) None (Some Am) Wave true false ∷
    row AmSub (Some Sub) None (Some Am) Wave true false ∷
    row AmFilter1 (Some Filter1) None (Some Am) Wave true false ∷
    row AmFilter2 (Some Filter2) None (Some Am) Wave true false ∷
    row Rm1 (Some Osc1) None (Some Ring) Wave true false ∷
    row Rm2 (Some Osc2) None (Some Ring) Wave true false ∷
    row RmNoise (Some Noise) None (Some Ring) Wave true false ∷
    row RmSub (Some Sub) None (Some Ring) Wave true false ∷
    row RmFilter1 (Some Filter1) None (Some Ring) Wave true false ∷
    row RmFilter2 (Some Filter2) None (Some Ring) Wave true false ∷
    []

-- the number of each mode, in the table's order
unfoldable pub numbers : List ℕ
unfolding modes
numbers = map (λ (r : Row). number_of r.mode) modes

-- the fact of the mode with this number; above 69 the refusal
abbrev pub fact_of : {A : Type 0} → (Row → A) → ℕ → Result A Refusal
fact_of f m = get_or (map (λ (r : Row). Ok (f r)) modes) m (Err Refusal.Mode)

unfoldable pub source_of : ℕ → Result (Option Source) Refusal
unfolding modes
source_of = fact_of (λ (r : Row). r.source)

unfoldable pub fm_type_of : ℕ → Result (Option FmType) Refusal
unfolding modes
fm_type_of = fact_of (λ (r : Row). r.fm_type)

unfoldable pub modulated_of : ℕ → Result (Option Modulated) Refusal
unfolding modes
modulated_of = fact_of (λ (r : Row). r.modulated)

unfoldable pub stage_of : ℕ → Result Stage Refusal
unfolding modes
stage_of = fact_of (λ (r : Row). r.stage)

unfoldable pub oversampled_of : ℕ → Result Bool Refusal
unfolding modes
oversampled_of = fact_of (λ (r : Row). r.oversampled)

unfoldable pub distortion_of : ℕ → Result Bool Refusal
unfolding modes
distortion_of = fact_of (λ (r : Row). r.distortion)

-- mode.distortion(), where a number above 69 is none
unfoldable pub is_distortion : ℕ → Bool
is_distortion mode = result_unwrap_or (distortion_of mode) false
