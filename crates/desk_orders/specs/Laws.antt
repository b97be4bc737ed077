-- What follows of a receipt, of a record that grew, and of clerks' lists.
use Rattle.std.specs.Prelude.{◌≡◌, ℕ, ◌≤◌, List, length, Option, Some, None}
use mathlib.Core.List.{IsPrefix}
use Rattle.atomic_table.specs.Seated.{TableId}
use Rattle.mem_base.specs.declared.machine.events.HistoryEntry.{HistoryEntry}
use Rattle.mem_base.specs.declared.machine.records.DeskOrder.{DeskOrder}
use Rattle.mem_base.specs.declared.machine.records.DeskEntry.{DeskEntry}
use Rattle.mem_base.specs.declared.machine.records.Differs.{Differs}
use Rattle.mem_base.specs.map.Calls.{empty}
use Rattle.mem_base.specs.machine.Actors.{generations_published, generation_published, number_seen}
use Rattle.mem_base.specs.machine.Records.{Clerk, Closes}
use Rattle.race_laws.specs.SoFar.{IsTold}
use Rattle.desk_orders.specs.declared.orders.Receipt.{Receipt}
use Rattle.desk_orders.specs.Receipts.{IsReceipt, ShowsOrder, number_told}
use Rattle.desk_orders.specs.Given.{entry_got}
use Rattle.std.specs.Prelude.{◌≡◌, ℕ, List, ◌++◌, flat_map}
use Rattle.mem_base.specs.machine.Records.{Given, recorded}
use Rattle.mem_base.specs.machine.Turns.{entries_of_turn, writers_of}
use Rattle.desk_orders.specs.Records.{RecordState, GrewBy, later_entries, turns_given}

-- In the history that came after the first record, the writer's entries are those of the turns of the orders, and the entries that came
-- after the first record's are those that the orders have
pub record MakesTurns (given : List Given) (v w : RecordState) : Type 0 where
  pub writer : (entries : List HistoryEntry) → w.seat.seen ≡ v.seat.seen ++ entries
      → writers_of entries ≡ flat_map entries_of_turn (turns_given v.part given)
  pub entries : later_entries v w ≡ recorded v.part given

abbrev pub LaterMakesTurns : Type 0
LaterMakesTurns = (given : List Given) (v w : RecordState) → GrewBy given v w → MakesTurns given v w

-- a number that an answer told is no greater than the one that is current then
abbrev pub IsNoNewer : List HistoryEntry → Option ℕ → Type 0
IsNoNewer seen None = Unit {0}
IsNoNewer seen (Some number) = number ≤ number_seen seen

-- what a receipt tells stays true of every history that begins with what its note had seen
pub record StaysTold (who : ℕ) (order : DeskOrder) (r : Receipt) (seen : List HistoryEntry) : Type 0 where
  pub told : IsTold (length (generations_published seen)) (entry_got who order r)
  pub newest : IsNoNewer seen (number_told r.answer)
  pub shows : ShowsOrder order r.answer seen

abbrev pub ReceiptsStay : Type 0
ReceiptsStay = (cabinet : TableId) (who : ℕ) (order : DeskOrder) (r : Receipt) (seen : List HistoryEntry) → IsReceipt cabinet order r
    → IsPrefix r.note.seen seen → StaysTold who order r seen

-- generation 0 is the empty forest, whatever is published later
abbrev pub FirstIsEmpty : Type 0
FirstIsEmpty = (seen : List HistoryEntry) → (generation_published seen 0).forest ≡ empty

-- the clerks' lists are what the record has, or there is a difference, and not both
abbrev pub ClosesOneWay : Type 0
ClosesOneWay = (entries : List DeskEntry) (clerks : List Clerk) (d : Differs) → Closes entries clerks None → Closes entries clerks (Some d) → ⊥
