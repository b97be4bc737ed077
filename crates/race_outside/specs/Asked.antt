-- What a line of the desk asks of the record, and gets.
use Rattle.std.specs.Prelude.{◌≡◌, ◌⊎◌, ℕ, Option, Some, None, Result, Ok}
use Rattle.std.specs.Arc.{arc_value}
use Rattle.mem_base.specs.declared.machine.records.DeskEntry.{DeskEntry}
use Rattle.mem_base.specs.declared.machine.records.DeskOrder.TheVariants.{Look}
use Rattle.mem_base.specs.declared.script.commands.Command.{Command}
use Rattle.mem_base.specs.script.Tasks.{Known, task_of}
use Rattle.mem_base.specs.script.RaceLines.{DeskLine, no_entry}
use Rattle.mem_base.specs.script.Race.{desk_number}
use Rattle.generation.specs.Published.{Published}
use Rattle.epoch_rule.specs.Copies.{value_in}
use Rattle.desk_orders.specs.declared.orders.Receipt.{Receipt}
use Rattle.desk_orders.specs.Receipts.{IsReceipt}
use Rattle.desk_orders.specs.Records.{RecordState}
use Rattle.desk_lock.specs.Turned.{Takes}
use Rattle.race_lines.specs.declared.tasks.LineTask.{LineTask}
use Rattle.race_lines.specs.declared.tasks.LineTask.TheVariants.{Ordered}
use Rattle.race_lines.specs.declared.tasks.Refused.{Refused}
use Rattle.race_lines.specs.DeskLines.{desk_line_by, entry_with}
use Rattle.race_lines.specs.LineTasks.{Resolves, resolved}
use Rattle.race_outside.specs.declared.desks.Asked.{Asked}

-- the record took the order of a task, if it has one, and else nothing
abbrev pub TakesOwn : RecordState → Result LineTask Refused → Option Receipt → RecordState → Type 0
TakesOwn v (Ok (Ordered order naming)) (Some r) w = Takes v desk_number order r w
TakesOwn v (Ok (Ordered order naming)) None w = ⊥
TakesOwn v task got w = (got ≡ None) × (w ≡ v)

-- the record took a look, which handed out this generation
pub record LooksAt (v : RecordState) (g : Published) (w : RecordState) : Type 0 where
  pub receipt : Receipt
  pub takes : Takes v desk_number Look receipt w
  pub is : IsReceipt v.seat.cabinet Look receipt
  pub note : receipt.note.seen ≡ w.seat.seen
  pub current : value_in receipt.current ≡ Some g

-- the entry of what a line got for its order
abbrev pub entry_of_receipt : Option Receipt → DeskEntry
entry_of_receipt None = no_entry
entry_of_receipt (Some r) = entry_with r.answer r.from r.to

-- the line, by what it got
abbrev pub line_asked : Known → ℕ → Asked → DeskLine
line_asked k number x = desk_line_by k number (resolved x.task) (entry_of_receipt x.got) (arc_value x.current).number (arc_value x.current).forest

-- the record took the order of a line, if it has one
pub record TakesFirst (v : RecordState) (k : Known) (command : Command) (task : Result LineTask Refused) (got : Option Receipt) (w : RecordState)
    : Type 0 where
  pub resolves : Resolves k task (task_of k command)
  pub took : TakesOwn v task got w

-- the record took all orders of a line: its own, if it has one, and then a look
pub record IsAsked (v : RecordState) (k : Known) (command : Command) (x : Asked) (w : RecordState) : Type 0 where
  pub between : RecordState
  pub first : TakesFirst v k command x.task x.got between
  pub looks : LooksAt between (arc_value x.current) w

-- it took the first of the two, and not the look
pub record HasBegun (v : RecordState) (k : Known) (command : Command) (w : RecordState) : Type 0 where
  pub task : Result LineTask Refused
  pub got : Option Receipt
  pub first : TakesFirst v k command task got w

-- it took nothing, or just that order
abbrev pub StopsAsking : RecordState → Known → Command → RecordState → Type 0
StopsAsking v k command w = (w ≡ v) ⊎ HasBegun v k command w
