-- The laws of a lane's inputs: the numbers that the program reads. Assumes nothing.
use mathlib.Core.Path.{◌≡◌, refl, ◌∙◌}
use mathlib.Core.List.{List}
use Prim.Native.Nat.{ℕ, ◌+◌, ◌*◌, ◌/◌, ◌≤◌, ◌<◌}
use native.Mathlib.Nat.{mul-le-mul, mul-le-mul_right}
use native.Mathlib.Omega.{arith}
use lib.ListN.{length, get_or}
use lib.Ieee.{nan}
use Rattle.grid.specs.Cells.{column}
use Rattle.grid.proofs.CellLaws.{col_at, get_or-column}
use Rattle.grid.proofs.Index.{row_in, whole_row}
use Rattle.limits.specs.Lengths.{spans_of}
use Rattle.limits.proofs.LengthLaws.{span_in}
use Rattle.controls.specs.Controls.{controls_of}
use Rattle.controls.specs.Places.{Spot}
use Rattle.shaper.specs.declared.settings.Settings.{Settings}
use Rattle.shaper.specs.declared.settings.Range.{Range}
use Rattle.render.specs.declared.state.BlockSettings.{BlockSettings}
use Rattle.render.specs.Lane.{Lent, inputs_in}
use Rattle.render.specs.Promises.{Limits, Readable}
use Rattle.render.specs.Frames.{Hosted, Framed, Room}

-- the number that the program reads in a row of a lane
pub row_read : {A : Type 0} (d : A) (n lane rows row : ℕ) (xs : List A) → row < rows → get_or (column d n lane rows xs) row d ≡ get_or xs (row * n + lane) d
row_read d n lane rows row xs h = get_or-column d n lane rows xs row h ∙ col_at d n lane xs row

-- ---- where they lie

-- the prepared slope of a host frame
pub slope_in : {s : Settings} {lane host base0 base1 mod0 mod1 inner : ℕ} → Hosted s lane host base0 base1 mod0 mod1 inner
    → host / 32 * s.lanes + lane < inner
slope_in {s} {lane} {host} h =
    omega (arith, row_in (host / 32) (spans_of s.frames) lane s.lanes (span_in s.frames host h.spot.row) h.spot.inside, h.spans)

pub slope_near : {s : Settings} {lane host base0 base1 mod0 mod1 inner : ℕ} → Hosted s lane host base0 base1 mod0 mod1 inner
    → host / 32 * s.lanes + lane < 8192
slope_near {s} {lane} {host} h =
    let few : host / 32 ≤ 127 = omega (arith, h.spot.row, h.spot.block) in
    omega (arith, mul-le-mul few h.spot.few, h.spot.inside, h.spot.few)

module _ {s : Settings} {lane host row work : ℕ} (room : Room s lane host row work) (sub : ℕ) (less : sub < s.factor) where
  -- a rendered frame of the block
  pub frame_in : host * s.factor + sub < s.frames * s.factor
  frame_in = row_in host s.frames sub s.factor room.spot.row less

  pub frames_few : s.frames * s.factor ≤ 32768
  frames_few = mul-le-mul room.spot.block room.most

  -- its work row
  pub room_in : (row + sub) * s.lanes + lane < work
  room_in = omega (arith, row_in (row + sub) (row + s.factor) lane s.lanes (omega arith) room.spot.inside, room.rows)

  pub room_near : (row + sub) * s.lanes + lane < 2097152
  room_near =
      let last : row + sub ≤ 32767 = omega (arith, room.few) in
      omega (arith, mul-le-mul last room.spot.few, room.spot.inside, room.spot.few)

  -- what it reads
  pub framed : {l : Lent} → Readable s l
      → Framed s lane host sub (length l.controls.source0) (length l.controls.source1) (length l.words) (length l.steps)
  framed {l} readable =
      let q = host * s.factor + sub in
      let at : q * s.lanes + lane < s.frames * s.factor * s.lanes = row_in q (s.frames * s.factor) lane s.lanes frame_in room.spot.inside in
      let last : q ≤ 32767 = omega (arith, frame_in, frames_few) in
      record {
        spot = room.spot;
        held0 = readable.controls.source0;
        held1 = readable.controls.source1;
        inside = frame_in;
        few = frames_few;
        near = omega (arith, mul-le-mul last room.spot.few, room.spot.inside, room.spot.few);
        word = omega (arith, at, readable.words);
        step = omega (arith, at, readable.steps);
      }

pub hosted : {s : Settings} {lane host : ℕ} {l : Lent} → Spot s.frames s.lanes lane host → Readable s l
    → Hosted s lane host (length l.controls.base0) (length l.controls.base1) (length l.controls.mod0) (length l.controls.mod1) (length l.inner)
hosted spot readable =
    record {
      spot = spot;
      first = readable.controls.base0;
      second = readable.controls.base1;
      held0 = readable.controls.mod0;
      held1 = readable.controls.mod1;
      spans = readable.inner;
    }

-- host frame k of a range
module _ {b : BlockSettings} {r : Range} (limits : Limits b r) (k : ℕ) (less : k < r.count) where
  pub host_rows : k * b.shaper.factor ≤ 32768
  host_rows =
      let few : k ≤ 4096 = omega (arith, limits.range, limits.frames) in
      mul-le-mul few limits.factor_most

  pub host_room : {lane work : ℕ} → lane < b.shaper.lanes → r.count * b.shaper.factor * b.shaper.lanes ≤ work
      → Room b.shaper lane (r.first + k) (k * b.shaper.factor) work
  host_room hl held =
      let f = b.shaper.factor in
      let last : k ≤ 4095 = omega (arith, limits.range, limits.frames) in
      record {
        spot = record { inside = hl; few = limits.lanes; block = limits.frames; row = omega (arith, limits.range) };
        most = limits.factor_most;
        few = omega (arith, mul-le-mul last limits.factor_most, limits.factor_most);
        rows = omega (arith, mul-le-mul_right b.shaper.lanes (whole_row k r.count f less), held);
      }

-- ---- as the code takes them

module _ (s : Settings) (l : Lent) (lane : ℕ) where
  pub inputs_controls : (inputs_in s l lane).controls ≡ controls_of s.lanes lane s.frames l.controls
  unfolding inputs_in
  inputs_controls = refl

  pub inputs_inner : (inputs_in s l lane).inner ≡ column nan s.lanes lane (spans_of s.frames) l.inner
  unfolding inputs_in
  inputs_inner = refl

  pub inputs_words : (inputs_in s l lane).words ≡ column 0 s.lanes lane (s.frames * s.factor) l.words
  unfolding inputs_in
  inputs_words = refl

  pub inputs_steps : (inputs_in s l lane).steps ≡ column 0 s.lanes lane (s.frames * s.factor) l.steps
  unfolding inputs_in
  inputs_steps = refl

  pub inputs_curve : (inputs_in s l lane).curve ≡ l.curve
  unfolding inputs_in
  inputs_curve = refl

  pub inputs_cycle : (inputs_in s l lane).cycle ≡ l.cycle
  unfolding inputs_in
  inputs_cycle = refl
