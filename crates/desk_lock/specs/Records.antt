-- The record of a desk, as its configuration and its entries.
use Rattle.std.specs.Prelude.{◌≡◌, ℕ, ◌+◌, List, []}
use Rattle.mem_base.specs.declared.machine.records.DeskEntry.{DeskEntry}
use Rattle.mem_base.specs.map.Limits.{notifier_count}
use Rattle.mem_base.specs.machine.Actors.{own_entries}
use Rattle.mem_base.specs.machine.Reaps.{first_writer}
use Rattle.config_desk.specs.Configs.{ConfigState}
use Rattle.desk_orders.specs.Records.{RecordState}

abbrev pub record_state : ConfigState → List DeskEntry → RecordState
record_state c entries = record { seat = c.seat; part = c.part; entries = entries }

-- no call was made on the desk but those that hand out passes: it is at generation 0, outside all transactions, and the writer has
-- made no entry
pub record IsUnused (c : ConfigState) : Type 0 where
  pub pool_words : ℕ
  pub wide : c.seat.sizes.words ≡ pool_words + notifier_count
  pub none : own_entries 0 c.seat.seen ≡ []
  pub part : c.part ≡ first_writer pool_words c.seat.sizes.passes
