-- The modes in the Rust's names and its order, and the number of each: its place in that order. A definition over mode numbers writes
-- `number_of Sync` for 1. Definitions only.
use Rattle.std.specs.Prelude.{ℕ}

pub data Mode : Type 0 where
  Off : Mode
  Sync PinchIn PinchOut Pinch PulseWidth LeanRight LeanLeft Lean Flip Mirror : Mode
  RemapDrawn RemapMirrored RemapSine RemapQuad Quantise OddEven : Mode
  LowPass HighPass : Mode
  Valve SoftClip HardClip Diode1 Diode2 Fold SineFold : Mode
  ZeroSquare Asymmetric Rectify SineShaper Pedal Tape SoftSaturate : Mode
  Fm1 Fm2 FmNoise FmSub FmFilter1 FmFilter2 : Mode
  FmExp1 FmExp2 FmExpNoise FmExpSub FmExpFilter1 FmExpFilter2 : Mode
  FmLin1 FmLin2 FmLinNoise FmLinSub FmLinFilter1 FmLinFilter2 : Mode
  Pd1 Pd2 PdNoise PdSub PdFilter1 PdFilter2 PdSelf : Mode
  Am1 Am2 AmNoise AmSub AmFilter1 AmFilter2 : Mode
  Rm1 Rm2 RmNoise RmSub RmFilter1 RmFilter2 : Mode

abbrev pub number_of : Mode → ℕ
number_of Off = 0
number_of Sync = 1
number_of PinchIn = 2
number_of PinchOut = 3
number_of Pinch = 4
number_of PulseWidth = 5
number_of LeanRight = 6
number_of LeanLeft = 7
number_of Lean = 8
number_of Flip = 9
number_of Mirror = 10
number_of RemapDrawn = 11
number_of RemapMirrored = 12
number_of RemapSine = 13
number_of RemapQuad = 14
number_of Quantise = 15
number_of OddEven = 16
number_of LowPass = 17
number_of HighPass = 18
number_of Valve = 19
number_of SoftClip = 20
number_of HardClip = 21
number_of Diode1 = 22
number_of Diode2 = 23
number_of Fold = 24
number_of SineFold = 25
number_of ZeroSquare = 26
number_of Asymmetric = 27
number_of Rectify = 28
number_of SineShaper = 29
number_of Pedal = 30
number_of Tape = 31
number_of SoftSaturate = 32
number_of Fm1 = 33
number_of Fm2 = 34
number_of FmNoise = 35
number_of FmSub = 36
number_of FmFilter1 = 37
number_of FmFilter2 = 38
number_of FmExp1 = 39
number_of FmExp2 = 40
number_of FmExpNoise = 41
number_of FmExpSub = 42
number_of FmExpFilter1 = 43
number_of FmExpFilter2 = 44
number_of FmLin1 = 45
number_of FmLin2 = 46
number_of FmLinNoise = 47
number_of FmLinSub = 48
number_of FmLinFilter1 = 49
number_of FmLinFilter2 = 50
number_of Pd1 = 51
number_of Pd2 = 52
number_of PdNoise = 53
number_of PdSub = 54
number_of PdFilter1 = 55
number_of PdFilter2 = 56
number_of PdSelf = 57
number_of Am1 = 58
number_of Am2 = 59
number_of AmNoise = 60
number_of AmSub = 61
number_of AmFilter1 = 62
number_of AmFilter2 = 63
number_of Rm1 = 64
number_of Rm2 = 65
number_of RmNoise = 66
number_of RmSub = 67
number_of RmFilter1 = 68
number_of RmFilter2 = 69
