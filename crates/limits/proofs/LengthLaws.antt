-- The laws of the lengths of buffers: what a call that passes lines 7 and 8 has, and how large lengths are. Assumes nothing.
use mathlib.Core.Path.{◌≡◌}
use mathlib.Core.Bool.{Bool, false}
use Prim.Native.Nat.{ℕ, ◌*◌, ◌/◌, ◌≤◌, ◌<◌}
use native.Mathlib.Nat.{mul-le-mul}
use native.Mathlib.Omega.{arith}
use borrow.Author.Tests.{ltb-false, le-ltb, ne_eqb}
use Rattle.limits.specs.declared.lengths.ControlLengths.{ControlLengths}
use Rattle.limits.specs.Lengths.{spans_of, host_length, rendered_length, span_length, shorter, short_lent, short_controls, Holds, ControlsHeld}
use Rattle.limits.proofs.LineLaws.{or_false}

-- ---- a buffer

pub long_enough : (need have : ℕ) → shorter need have ≡ false → need ≤ have
long_enough need have e = ltb-false have need e

pub not_short : (need have : ℕ) → need ≤ have → shorter need have ≡ false
not_short need have h = le-ltb have need h

-- one that is given is long enough
pub good_lent : (need have : ℕ) → short_lent need have ≡ false → Holds need have
good_lent need have e = record { holds = λ given. ltb-false have need (rw (ne_eqb have 0 given) at e) }

-- ---- base, modulation and sources

pub controls_held : (frames n : ℕ) (l : ControlLengths) → short_controls frames n l ≡ false → ControlsHeld frames n l
controls_held frames n l e =
    let lent : ℕ → Bool = λ have. short_lent (host_length frames n) have in
    let p5 = or_false _ (lent l.source1) e in
    let p4 = or_false _ (lent l.source0) p5.0 in
    let p3 = or_false _ (lent l.mod1) p4.0 in
    let p2 = or_false _ (lent l.mod0) p3.0 in
    let p1 = or_false (shorter n l.base0) (shorter n l.base1) p2.0 in
    record {
      base0 = long_enough n l.base0 p1.0;
      base1 = long_enough n l.base1 p1.1;
      mod0 = good_lent (host_length frames n) l.mod0 p2.1;
      mod1 = good_lent (host_length frames n) l.mod1 p3.1;
      source0 = good_lent (host_length frames n) l.source0 p4.1;
      source1 = good_lent (host_length frames n) l.source1 p5.1;
    }

-- ---- sub-blocks

-- a host frame's sub-block
pub span_in : (frames h : ℕ) → h < frames → h / 32 < spans_of frames
unfolding spans_of
span_in frames h l = omega arith

pub spans_small : (frames : ℕ) → frames ≤ 4096 → spans_of frames ≤ 128
unfolding spans_of
spans_small frames l = omega arith

-- ---- the largest lengths

pub host_most : (frames n : ℕ) → frames ≤ 4096 → n ≤ 64 → host_length frames n ≤ 4096 * 64
host_most frames n f l = mul-le-mul f l

-- the rendered frames
pub frames_most : (frames factor : ℕ) → frames ≤ 4096 → factor ≤ 8 → frames * factor ≤ 4096 * 8
frames_most frames factor f u = mul-le-mul f u

pub rendered_most : (frames factor n : ℕ) → frames ≤ 4096 → factor ≤ 8 → n ≤ 64 → rendered_length frames factor n ≤ 4096 * 8 * 64
rendered_most frames factor n f u l = mul-le-mul (frames_most frames factor f u) l

pub span_most : (frames n : ℕ) → frames ≤ 4096 → n ≤ 64 → span_length frames n ≤ 128 * 64
span_most frames n f l = mul-le-mul (spans_small frames f) l
