-- What the writer's seat adds to the writer's own entries.
use Rattle.std.specs.Prelude.{◌≡◌, List}
use Rattle.mem_base.specs.declared.machine.events.HistoryEntry.{HistoryEntry}
use Rattle.epoch_rule.specs.Rule.{KeepsHome}
use Rattle.epoch_rule.specs.Values.{WriterValue}
use Rattle.epoch_rule.specs.Wrote.{Adds}

-- the writer made just these entries, in order; the seat is of the same cabinet, and the same passes are out
pub record HasWritten (v : WriterValue) (es : List HistoryEntry) (w : WriterValue) : Type 0 where
  pub cabinet : w.cabinet ≡ v.cabinet
  pub sizes : w.sizes ≡ v.sizes
  pub out : w.out ≡ v.out
  pub home : KeepsHome v.out v.seen w.seen
  pub adds : Adds v.sizes 0 v.seen es w.seen
