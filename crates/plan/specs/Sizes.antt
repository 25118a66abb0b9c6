-- What a plan's sizes mean for the run's own table of refusals. Definitions only.
use Rattle.std.specs.Prelude.{◌≡◌, false, ◌≤◌}
use Rattle.limits.specs.Lines.{bad_modes, bad_rate}
use Rattle.limits.specs.Lengths.{host_length}
use Rattle.block.specs.declared.refusal.CallNumbers.{CallNumbers}
use Rattle.block.specs.declared.refusal.ReadLengths.{ReadLengths}
use Rattle.block.specs.declared.refusal.WriteLengths.{WriteLengths}
use Rattle.block.specs.Refusal.{reads_short, block_refusal}
use Rattle.plan.specs.declared.needs.BlockNumbers.{BlockNumbers}
use Rattle.plan.specs.declared.needs.Plan.{Plan}
use Rattle.plan.specs.OneRange.{OneRange}

-- written buffers that are at least as long as the plan's
pub record AsPlanned (p : Plan) (writes : WriteLengths) : Type 0 where
  pub work : p.work ≤ writes.work
  pub state : p.state ≤ writes.dec
  pub pairs : p.pairs ≤ writes.pairs
  pub fm : p.fm ≤ writes.fm
  pub last : p.last ≤ writes.last

-- a run that only these five buffers can turn down: its modes and rate, what it reads and its output are as the table
-- asks
pub record ByThese (call : CallNumbers) (reads : ReadLengths) (writes : WriteLengths) : Type 0 where
  pub modes : bad_modes call.mode0 call.mode1 ≡ false
  pub rate : bad_rate call.rate ≡ false
  pub read : reads_short call reads ≡ false
  pub output : host_length call.frames call.lanes ≤ writes.output

-- It is accepted with these sizes or larger ones, and with less of any it is turned down as 8.
pub record Least (b : BlockNumbers) (p : Plan) : Type 0 where
  pub enough : (call : CallNumbers) (reads : ReadLengths) (writes : WriteLengths)
      → OneRange b call → ByThese call reads writes → AsPlanned p writes → block_refusal call reads writes ≡ 0
  pub less : (call : CallNumbers) (reads : ReadLengths) (writes : WriteLengths)
      → OneRange b call → ByThese call reads writes → (AsPlanned p writes → ⊥) → block_refusal call reads writes ≡ 8
