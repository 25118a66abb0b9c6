-- The laws of the refusals of `prepare` and `stretch`: what an accepted call has. Assumes nothing.
use mathlib.Core.Path.{◌≡◌}
use mathlib.Core.Bool.{false, ◌||◌}
use Prim.Native.Nat.{ℕ, ◌+◌, ◌-◌, ◌*◌, ◌/◌, ◌≤◌, ◌<◌, max}
use native.Mathlib.Nat.{mul-le-mul, div-lt_iff_lt-mul}
use native.Mathlib.Omega.{arith}
use Rattle.limits.specs.Lines.{first_of, bad_modes, bad_factor, bad_lanes, bad_lane, bad_frames, bad_asked, bad_rate}
use Rattle.limits.specs.Lengths.{spans_of, span_length, curve_length, shorter, short_controls}
use Rattle.limits.proofs.LineLaws.{no_line, or_false, the_factor, small_factor, good_lanes, good_lane, good_frames, good_asked, good_rate}
use Rattle.limits.proofs.LengthLaws.{long_enough, controls_held, span_in, spans_small}
use Rattle.spans.specs.declared.refusal.PrepareLengths.{PrepareLengths}
use Rattle.spans.specs.Refusal.{prepare_reads_short, prepare_writes_short, prepare_refusal, stretch_reads_short, stretch_refusal}
use Rattle.spans.specs.Promises.{Takes, Asks}

-- ---- `prepare`

-- the last sub-block has a host frame
spans_last : (f : ℕ) → spans_of f * 32 < f + 32
unfolding spans_of
spans_last f = omega arith

-- what an accepted call has
pub record Accepted (mode0 mode1 factor n active f rate : ℕ) (l : PrepareLengths) : Type 0 where
  pub some : 1 ≤ n
  pub lanes : active ≤ n
  pub curves : curve_length ≤ l.curve
  pub rendered : factor ≤ 8
  pub rates : rate ≤ 192000
  pub block : f ≤ 4096
  pub takes : Takes f (spans_of f) n l.controls l.inner l.stretch l.add

pub accepted : (mode0 mode1 factor n active f rate : ℕ) (l : PrepareLengths) → prepare_refusal mode0 mode1 factor n active f rate l ≡ 0
    → Accepted mode0 mode1 factor n active f rate l
unfolding prepare_refusal first_of
accepted mode0 mode1 factor n active f rate l e =
    let p =
    no_line (bad_modes mode0 mode1) (bad_factor factor) (bad_lanes n active) (bad_frames f) (bad_rate rate) false
    (prepare_reads_short f n l) (prepare_writes_short f n l) e in
    let lanes = good_lanes n active p.numbers.lanes in
    let cells : ℕ = span_length f n in
    let read = or_false (short_controls f n l.controls) (shorter curve_length l.curve) p.read in
    let written = or_false (shorter cells l.inner || shorter cells l.stretch) (shorter cells l.add) p.written in
    let first = or_false (shorter cells l.inner) (shorter cells l.stretch) written.0 in
    record {
      some = lanes.0;
      lanes = lanes.2;
      curves = long_enough curve_length l.curve read.1;
      rendered = (small_factor factor p.numbers.factor).1;
      rates = (good_rate rate p.numbers.rate).1;
      block = good_frames f p.numbers.frames;
      takes =
          record {
            few = lanes.1;
            last = spans_last f;
            controls = controls_held f n l.controls read.0;
            inners = long_enough cells l.inner first.0;
            stretches = long_enough cells l.stretch first.1;
            adds = long_enough cells l.add written.1;
          };
    }

-- ---- `stretch`

-- the host frames of rendered frames
host_order : (factor : ℕ) → bad_factor factor ≡ false → (x y : ℕ) → x ≤ y → x / factor ≤ y / factor
host_order =
    the_factor (λ (f : ℕ). (x y : ℕ) → x ≤ y → x / f ≤ y / f)
    (λ x y h. omega arith)
    (λ x y h. omega arith)
    (λ x y h. omega arith)
    (λ x y h. omega arith)

module _ (factor n active lane f first count from asked stretch add : ℕ) where
  -- what an accepted call has
  pub record StretchAccepted : Type 0 where
    pub factors : bad_factor factor ≡ false
    pub lanes : bad_lane n active lane ≡ false
    pub looked : bad_asked factor f first count from asked ≡ false
    pub stretches : shorter (span_length f n) stretch ≡ false
    pub adds : shorter (span_length f n) add ≡ false

  pub stretch_accepted : stretch_refusal factor n active lane f first count from asked stretch add ≡ 0 → StretchAccepted
  unfolding stretch_refusal first_of
  stretch_accepted e =
      let p = no_line false (bad_factor factor) (bad_lane n active lane) (bad_asked factor f first count from asked) false false (stretch_reads_short f n stretch add) false e in
      let read = or_false (shorter (span_length f n) stretch) (shorter (span_length f n) add) p.read in
      record { factors = p.numbers.factor; lanes = p.numbers.lanes; looked = p.numbers.frames; stretches = read.0; adds = read.1 }

  -- what the call's steps ask for
  pub asks_of : stretch_refusal factor n active lane f first count from asked stretch add ≡ 0
      → Asks factor first (spans_of f) n lane from asked stretch add
  asks_of e =
      let p = stretch_accepted e in
      let lanes = good_lane n active lane p.lanes in
      let small = small_factor factor p.factors in
      let looked = good_asked factor f first count from asked p.looked in
      let last : ℕ = from + max asked 1 - 1 in
      let counted : count ≤ 4096 = omega arith in
      let most : count * factor ≤ 4096 * 8 = mul-le-mul counted small.1 in
      let host : last / factor < count = (div-lt_iff_lt-mul small.0).1 (omega arith) in
      let order : from / factor ≤ last / factor = host_order factor p.factors from last (omega arith) in
      record {
        inside = omega arith;
        few = lanes.1;
        block = omega (arith, spans_small f looked.0);
        rendered = small.0;
        range = omega arith;
        frames = omega arith;
        order = omega arith;
        last = span_in f (first + last / factor) (omega arith);
        stretches = long_enough (span_length f n) stretch p.stretches;
        adds = long_enough (span_length f n) add p.adds;
      }
