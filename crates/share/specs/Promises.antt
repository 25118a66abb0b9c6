-- What a lane's share asks for, and what it promises. Definitions only.
use Rattle.std.specs.Prelude.{◌≡◌, List, ℕ, ◌+◌, ◌*◌, ◌≤◌, length, Float}
use Rattle.std.specs.Float.{nan}
use Rattle.grid.specs.Functions.{upd}
use Rattle.grid.specs.Cells.{columns}
use Rattle.grid.specs.Lanes.{Each}
use Rattle.limits.specs.Lengths.{host_length, rendered_length, pairs_length, carry_length, last_length, state_length}
use Rattle.shaper.specs.declared.settings.Settings.{Settings}
use Rattle.shaper.specs.declared.settings.Range.{Range}
use Rattle.shaper.specs.Lane.{put_pairs, put_carry}
use Rattle.render.specs.declared.state.BlockSettings.{BlockSettings}
use Rattle.render.specs.declared.state.Voice.{Voice}
use Rattle.render.specs.Lane.{Lent, inputs_of}
use Rattle.share.specs.Share.{Buffers, columns_of, share}

-- buffers to write that are long enough
pub record Writable (s : Settings) (r : Range) (w : Buffers) : Type 0 where
  pub output : host_length s.frames s.lanes ≤ length w.output
  pub work : rendered_length r.count s.factor s.lanes ≤ length w.work
  pub pairs : pairs_length s.lanes ≤ length w.pairs
  pub fm : carry_length s.lanes ≤ length w.fm
  pub last : last_length s.lanes ≤ length w.last
  pub dec : state_length s.lanes ≤ length w.dec

-- cells of a lane's state that are there
pub record StateHeld (n pairs_have fm_have last_have : ℕ) : Type 0 where
  pub pairs : pairs_length n ≤ pairs_have
  pub fm : carry_length n ≤ fm_have
  pub last : last_length n ≤ last_have

-- the rows that are copied
pub record Copied (first count n work output : ℕ) : Type 0 where
  pub rows : first + count ≤ 4096
  pub from : count * n ≤ work
  pub to : (first + count) * n ≤ output

-- a lane's state is stored
pub record Stored (n lane : ℕ) (v : Voice) (pairs fm last pairs' fm' last' : List Float) : Type 0 where
  pub filters : Each n lane (lane + 1) (λ _. put_pairs v.pairs0 v.pairs1) (columns nan n pairs) (columns nan n pairs')
  pub carry : Each n lane (lane + 1) (λ _. put_carry v.fm0 v.fm1) (columns nan n fm) (columns nan n fm')
  pub kept : Each n lane (lane + 1) (λ _ f. upd f 0 v.last) (columns nan n last) (columns nan n last')

-- no length changes
pub record Sizes (w w' : Buffers) : Type 0 where
  pub output : length w'.output ≡ length w.output
  pub work : length w'.work ≡ length w.work
  pub pairs : length w'.pairs ≡ length w.pairs
  pub fm : length w'.fm ≡ length w.fm
  pub last : length w'.last ≡ length w.last
  pub dec : length w'.dec ≡ length w.dec

-- the lanes from ≤ lane < to have had their share, and no other cell has changed
pub record Shared (b : BlockSettings) (r : Range) (l : Lent) (from to : ℕ) (w w' : Buffers) : Type 0 where
  pub lanes :
      Each b.shaper.lanes from to (λ lane. share b r (inputs_of b.shaper l lane))
      (columns_of b.shaper.lanes w) (columns_of b.shaper.lanes w')
  pub sizes : Sizes w w'
