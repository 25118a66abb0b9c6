-- The laws of the work of a call that is taken. Assumes nothing.
use mathlib.Core.Path.{◌≡◌, refl, subst}
use mathlib.Core.List.{List}
use Prim.Native.Nat.{ℕ, ◌+◌, ◌*◌, ◌/◌, ◌≤◌, ◌<◌}
use native.Mathlib.Nat.{mul-le-mul}
use native.Mathlib.Omega.{arith}
use lib.Ieee.{Float, nan}
use Rattle.grid.specs.Functions.{upd}
use Rattle.grid.specs.Cells.{columns}
use Rattle.grid.specs.Lanes.{Each}
use Rattle.grid.proofs.Index.{row_in}
use Rattle.limits.specs.declared.lengths.ControlLengths.{ControlLengths}
use Rattle.limits.specs.Lengths.{spans_of}
use Rattle.limits.proofs.LengthLaws.{span_in}
use Rattle.voice.specs.declared.phase_run.Reads.{Reads}
use Rattle.voice.specs.declared.wave_run.Shaped.{Shaped}
use Rattle.shaper.specs.declared.settings.Settings.{Settings}
use Rattle.shaper.specs.Lane.{put_pairs, put_carry}
use Rattle.shaper.specs.Taken.{Fed, ReadsTaken, SampleTaken}

-- the lane's number in the span of its host frame's sub-block
pub span_held : {s : Settings} {rate : ℕ} {l : ControlLengths} {lane host inner : ℕ} → Fed s rate l lane host inner
    → host / 32 * s.lanes + lane < inner
span_held {s} {lane = lane} {host = host} fed =
    let spot = fed.driven.spot in
    omega (arith, row_in (host / 32) (spans_of s.frames) lane s.lanes (span_in s.frames host spot.row) spot.inside, fed.spans)

-- its place is a small number, in a short block of few lanes
pub span_small : {s : Settings} {rate : ℕ} {l : ControlLengths} {lane host inner : ℕ} → Fed s rate l lane host inner
    → host / 32 * s.lanes + lane < 8192
span_small {s} {lane = lane} {host = host} fed =
    let spot = fed.driven.spot in
    let sub_block_lem : host / 32 ≤ 127 = omega (arith, spot.row, spot.block) in
    omega (arith, mul-le-mul sub_block_lem spot.few, spot.inside, spot.few)

-- what the parts of the work promise, by what it is called for
pub reads_taken : {s : Settings} {lane : ℕ} {fm fm' : List Float} (done called : Reads) → done ≡ called
    → Each s.lanes lane (lane + 1) (λ _. put_carry done.fm0 done.fm1) (columns nan s.lanes fm) (columns nan s.lanes fm')
    → ReadsTaken s lane called fm fm' done.reads
reads_taken {s} {lane} {fm} {fm'} done called e carry =
    subst (λ (x : Reads). ReadsTaken s lane x fm fm' done.reads) e (record { list = refl; carry = carry })

pub sample_taken : {s : Settings} {lane : ℕ} {pairs last pairs' last' : List Float} (done called : Shaped) → done ≡ called
    → Each s.lanes lane (lane + 1) (λ _. put_pairs done.pairs0 done.pairs1) (columns nan s.lanes pairs) (columns nan s.lanes pairs')
    → Each s.lanes lane (lane + 1) (λ _ f. upd f 0 done.last) (columns nan s.lanes last) (columns nan s.lanes last')
    → SampleTaken s lane called pairs last pairs' last' done.y
sample_taken {s} {lane} {pairs} {last} {pairs'} {last'} done called e stored kept =
    subst (λ (x : Shaped). SampleTaken s lane x pairs last pairs' last' done.y) e (record { value = refl; filters = stored; kept = kept })
