use Rattle.std.proofs.Common.{take}
use Rattle.script_names.specs.Tables.{printed_names}
use Rattle.view_slots.proofs.TableLaws.{IsTable}
use Rattle.view_slots.proofs.tables.table.Given as goal

abbrev pub invariant-loop-range : goal.invariant-loop-range
invariant-loop-range l = IsTable l.edges (printed_names l.names) l.others (take l.range-index l.ranges) l.slots.items
