-- An order: as a turn of the writer, and as an entry.
use Rattle.std.specs.Prelude.{ℕ, List}
use Rattle.mem_base.specs.declared.machine.records.DeskOrder.{DeskOrder}
use Rattle.mem_base.specs.declared.machine.records.DeskEntry.{DeskEntry}
use Rattle.mem_base.specs.machine.Reaps.{Writer}
use Rattle.mem_base.specs.machine.Records.{call_of}
use Rattle.mem_base.specs.machine.Turns.{WriterCall, turn}
use Rattle.desk_orders.specs.declared.orders.Receipt.{Receipt}

abbrev pub turn_of : Writer → DeskOrder → List ℕ → WriterCall
turn_of w order replies = turn w (call_of order) replies

-- what is written down of an order that got this receipt
abbrev pub entry_got : ℕ → DeskOrder → Receipt → DeskEntry
entry_got who order r = record { who = who; order = order; answer = r.answer; from = r.from; to = r.to }
