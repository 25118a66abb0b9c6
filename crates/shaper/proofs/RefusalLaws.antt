-- What an accepted call has. Assumes nothing.
use mathlib.Core.Path.{◌≡◌, sym}
use mathlib.Core.Bool.{false, ◌||◌}
use Prim.Native.Nat.{ℕ, ◌+◌, ◌*◌, ◌/◌, ◌≤◌, ◌<◌}
use native.Mathlib.Nat.{div-lt_iff_lt-mul}
use native.Mathlib.Omega.{arith}
use Rattle.limits.specs.declared.lengths.ControlLengths.{ControlLengths}
use Rattle.std.specs.Prelude.{Ok}
use Rattle.limits.specs.Refusals.{number_of}
use Rattle.limits.specs.Lines.{first_of, bad_factor, bad_lane, bad_rate}
use Rattle.limits.specs.Lengths.{span_length, curve_length, pairs_length, carry_length, last_length, shorter, short_controls, ControlsHeld}
use Rattle.limits.proofs.LineLaws.{no_line, or_false, small_factor, good_lane, good_frame, good_rate}
use Rattle.limits.proofs.LengthLaws.{long_enough, controls_held}
use Rattle.shaper.specs.declared.settings.Settings.{Settings}
use Rattle.shaper.specs.declared.settings.Range.{Range}
use Rattle.shaper.specs.Refusal.{mode_line, frame_line, reads_short, carry_short, pairs_short, reads_refusal, sample_refusal}
use Rattle.shaper.specs.Taken.{Driven, Fed}

-- ---- lines 1 to 4 and 7, which both calls have

pub record Accepted (s : Settings) (active lane : ℕ) (r : Range) (frame : ℕ) (l : ControlLengths) : Type 0 where
  pub least : 1 ≤ s.factor
  pub most : s.factor ≤ 8
  pub lanes : 1 ≤ s.lanes
  pub few : s.lanes ≤ 64
  pub actives : active ≤ s.lanes
  pub inside : lane < active
  pub block : s.frames ≤ 4096
  pub range : r.first + r.count ≤ s.frames
  pub rendered : frame < r.count * s.factor
  pub controls : ControlsHeld s.frames s.lanes l

accepted : (s : Settings) (active lane : ℕ) (r : Range) (frame : ℕ) (l : ControlLengths) → bad_factor s.factor ≡ false
    → bad_lane s.lanes active lane ≡ false → frame_line s r frame ≡ false → short_controls s.frames s.lanes l ≡ false
    → Accepted s active lane r frame l
accepted s active lane r frame l e2 e3 e4 e7 =
    let factor = small_factor s.factor e2 in
    let lanes = good_lane s.lanes active lane e3 in
    let frames = good_frame s.factor s.frames r.first r.count frame e4 in
    record {
      least = factor.0;
      most = factor.1;
      lanes = lanes.0;
      few = lanes.1;
      actives = lanes.2;
      inside = lanes.3;
      block = frames.0;
      range = frames.1;
      rendered = frames.2;
      controls = controls_held s.frames s.lanes l e7;
    }

-- the host frame of a rendered frame lies in the block
pub host_in : (frames first count factor frame : ℕ) → 1 ≤ factor → first + count ≤ frames → frame < count * factor
    → first + frame / factor < frames
host_in frames first count factor frame some range h =
    let k : frame / factor < count = (div-lt_iff_lt-mul some).1 h in
    omega arith

module _ {s : Settings} {active lane : ℕ} {r : Range} {frame : ℕ} {l : ControlLengths} (a : Accepted s active lane r frame l) where
  pub driven_of_lem : Driven s l lane (r.first + frame / s.factor)
  driven_of_lem =
      let actives = a.actives in
      let inside = a.inside in
      record {
        spot = record {
          inside = omega arith;
          few = a.few;
          block = a.block;
          row = host_in s.frames r.first r.count s.factor frame a.least a.range a.rendered;
        };
        controls = a.controls;
      }

-- ---- an accepted read list

pub record ReadsAccepted (s : Settings) (rate active lane : ℕ) (r : Range) (frame : ℕ) (l : ControlLengths) (curve inner fm last : ℕ) : Type 0 where
  pub number : reads_refusal s rate active lane r frame l curve inner fm last ≡ 0
  pub accepted : Accepted s active lane r frame l
  pub high : rate ≤ 192000
  pub entries : curve_length ≤ curve
  pub spans : span_length s.frames s.lanes ≤ inner
  pub carry : carry_length s.lanes ≤ fm
  pub kept : last_length s.lanes ≤ last

pub reads_accepted : (s : Settings) (rate active lane : ℕ) (r : Range) (frame : ℕ) (l : ControlLengths) (curve inner fm last : ℕ)
    → reads_refusal s rate active lane r frame l curve inner fm last ≡ 0 → ReadsAccepted s rate active lane r frame l curve inner fm last
unfolding reads_refusal first_of
reads_accepted s rate active lane r frame l curve inner fm last e =
    let p =
    no_line (mode_line s) (bad_factor s.factor) (bad_lane s.lanes active lane) (frame_line s r frame) (bad_rate rate) false
    (reads_short s l curve inner) (carry_short s.lanes fm last) e in
    let read = or_false (short_controls s.frames s.lanes l || shorter curve_length curve) (shorter (span_length s.frames s.lanes) inner) p.read in
    let controls = or_false (short_controls s.frames s.lanes l) (shorter curve_length curve) read.0 in
    let written = or_false (shorter (carry_length s.lanes) fm) (shorter (last_length s.lanes) last) p.written in
    record {
      number = e;
      accepted = accepted s active lane r frame l p.numbers.factor p.numbers.lanes p.numbers.frames controls.0;
      high = (good_rate rate p.numbers.rate).1;
      entries = long_enough curve_length curve controls.1;
      spans = long_enough (span_length s.frames s.lanes) inner read.1;
      carry = long_enough (carry_length s.lanes) fm written.0;
      kept = long_enough (last_length s.lanes) last written.1;
    }

-- as the code comes to it
pub reads_passed : {s : Settings} {rate active lane : ℕ} {r : Range} {frame : ℕ} {l l' : ControlLengths} {curve inner fm last : ℕ} → l ≡ l'
    → number_of {A = Unit {0}} (Ok tt) ≡ reads_refusal s rate active lane r frame l curve inner fm last
    → ReadsAccepted s rate active lane r frame l' curve inner fm last
unfolding number_of
reads_passed e passed = reads_accepted _ _ _ _ _ _ _ _ _ _ _ (sym (rw e at passed))

pub fed_of : {s : Settings} {rate active lane : ℕ} {r : Range} {frame : ℕ} {l : ControlLengths} {curve inner fm last : ℕ}
    → ReadsAccepted s rate active lane r frame l curve inner fm last → Fed s rate l lane (r.first + frame / s.factor) inner
fed_of a =
    record {
      driven = driven_of_lem a.accepted;
      rates = a.high;
      factor = a.accepted.most;
      spans = a.spans;
    }

-- ---- an accepted sample

pub record SampleAccepted (s : Settings) (active lane : ℕ) (r : Range) (frame : ℕ) (l : ControlLengths) (pairs last : ℕ) : Type 0 where
  pub number : sample_refusal s active lane r frame l pairs last ≡ 0
  pub accepted : Accepted s active lane r frame l
  pub cells : pairs_length s.lanes ≤ pairs
  pub kept : last_length s.lanes ≤ last

pub sample_accepted : (s : Settings) (active lane : ℕ) (r : Range) (frame : ℕ) (l : ControlLengths) (pairs last : ℕ)
    → sample_refusal s active lane r frame l pairs last ≡ 0 → SampleAccepted s active lane r frame l pairs last
unfolding sample_refusal first_of
sample_accepted s active lane r frame l pairs last e =
    let p =
    no_line (mode_line s) (bad_factor s.factor) (bad_lane s.lanes active lane) (frame_line s r frame) false false
    (short_controls s.frames s.lanes l) (pairs_short s.lanes pairs last) e in
    let written = or_false (shorter (pairs_length s.lanes) pairs) (shorter (last_length s.lanes) last) p.written in
    record {
      number = e;
      accepted = accepted s active lane r frame l p.numbers.factor p.numbers.lanes p.numbers.frames p.read;
      cells = long_enough (pairs_length s.lanes) pairs written.0;
      kept = long_enough (last_length s.lanes) last written.1;
    }

pub sample_passed : {s : Settings} {active lane : ℕ} {r : Range} {frame : ℕ} {l l' : ControlLengths} {pairs last : ℕ} → l ≡ l'
    → number_of {A = Unit {0}} (Ok tt) ≡ sample_refusal s active lane r frame l pairs last
    → SampleAccepted s active lane r frame l' pairs last
unfolding number_of
sample_passed e passed = sample_accepted _ _ _ _ _ _ _ _ (sym (rw e at passed))
