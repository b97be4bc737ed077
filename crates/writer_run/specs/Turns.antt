-- What a call of the writer comes to: a turn.
use Rattle.std.specs.Prelude.{◌≡◌, ℕ, ◌+◌, if◌then◌else◌, List, [], Option, Some, None, Result, Ok, Err}
use Rattle.mem_base.specs.declared.map.calls.Applied.{Applied}
use Rattle.mem_base.specs.declared.map.calls.Config.{Config}
use Rattle.mem_base.specs.declared.map.refusals.Refusal.{Refusal}
use Rattle.mem_base.specs.declared.machine.events.HistoryEntry.{HistoryEntry}
use Rattle.mem_base.specs.machine.Answers.{Answer, answer_of_config}
use Rattle.mem_base.specs.machine.Orders.{Order}
use Rattle.mem_base.specs.machine.Publishing.{would_publish}
use Rattle.mem_base.specs.machine.Reaps.{Writer}
use Rattle.mem_base.specs.machine.Turns.{turn, entries_of_turn}
use Rattle.mem_base.specs.declared.access.cells.Place.{Place}
use Rattle.writer_hand.specs.Hands.{cleared}

-- the call is the defined turn, by the replies that its entries got: just these entries were made, this is its answer, and this
-- the writer's part that it leaves
pub record IsTurn (w : Writer) (k : Order) (makes : List HistoryEntry → Type 0) (answer : Answer) (v : Writer) : Type 0 where
  pub replies : List ℕ
  pub made : makes (entries_of_turn (turn w k replies))
  pub answer_is : answer ≡ (turn w k replies).answer
  pub writer : v ≡ (turn w k replies).writer

-- what is answered, with the number that was published, as the machine's answer
abbrev pub answer_by : Config → Result (Applied × Option ℕ) Refusal → Answer
answer_by k (Ok x) = answer_of_config k (Ok x.0) x.1
answer_by k (Err why) = answer_of_config k (Err why) None

-- the number that a private event answers: the one after the current number where it publishes, and none where it publishes nothing
abbrev pub number_told : Writer → Config → Option ℕ
number_told w k = if would_publish w.desk k then Some (w.generations.current + 1) else None

-- the entries that clear the place of a region that was made, where it has one
abbrev pub cleared_at : Option Place → List HistoryEntry
cleared_at None = []
cleared_at (Some p) = cleared p
