-- An order as one turn of the writer.
use Rattle.std.specs.Prelude.{◌≡◌, ℕ, List, [], ◌∷◌, ◌++◌, Option, Some, None}
use Rattle.mem_base.specs.declared.map.calls.Config.TheVariants as configs
use Rattle.mem_base.specs.declared.machine.records.DeskOrder.{DeskOrder}
use Rattle.mem_base.specs.declared.machine.records.DeskOrder.TheVariants as orders
use Rattle.mem_base.specs.declared.machine.records.DeskAnswer.{DeskAnswer}
use Rattle.mem_base.specs.declared.machine.records.DeskAnswer.TheVariants as answers
use Rattle.mem_base.specs.machine.Publishing.{current_forest}
use Rattle.mem_base.specs.machine.Reaps.{Writer}
use Rattle.mem_base.specs.machine.Records.{journal_length, told}
use Rattle.mem_base.specs.machine.Turns.{entries_of_turn}
use Rattle.generation.specs.Published.{Published}
use Rattle.config_desk.specs.HandedOn.{number_told, HasWritten}
use Rattle.config_desk.specs.Configs.{ConfigState}
use Rattle.desk_orders.specs.Given.{entry_got, turn_of}
use Rattle.desk_orders.specs.declared.orders.Receipt.{Receipt}
use Rattle.desk_orders.specs.Records.{RecordState}

-- The order was the defined turn: the writer made just its entries, the answer is what that tells, and the writer's part is what it left
pub record IsAsked (v : ConfigState) (order : DeskOrder) (answer : DeskAnswer) (w : ConfigState) : Type 0 where
  pub replies : List ℕ
  pub made : HasWritten v.seat (entries_of_turn (turn_of v.part order replies)) w.seat
  pub answer_is : answer ≡ told (turn_of v.part order replies).answer
  pub part : w.part ≡ (turn_of v.part order replies).writer

-- the number that a call or a commit answers is that of what it published
abbrev pub TellsNumber : Writer → DeskOrder → DeskAnswer → Type 0
TellsNumber w (orders.Call call) (answers.Called applied number) = number ≡ number_told w (configs.Call call)
TellsNumber w orders.Commit (answers.Committed number) = number ≡ number_told w configs.Commit
TellsNumber w order answer = Unit {0}

-- a look hands out the current generation, and no other order any
abbrev pub HandsCurrent : Writer → DeskOrder → Option Published → Type 0
HandsCurrent w orders.Look (Some g) = (g.number ≡ w.generations.current) × (g.forest ≡ current_forest w.generations)
HandsCurrent w orders.Look None = ⊥
HandsCurrent w order current = current ≡ None

-- the order was its turn, and the receipt tells its answer, and the lengths of the journal before and after it
pub record IsTurned (v : ConfigState) (order : DeskOrder) (r : Receipt) (w : ConfigState) : Type 0 where
  pub asked : IsAsked v order r.answer w
  pub from : r.from ≡ journal_length v.part
  pub to : r.to ≡ journal_length w.part

abbrev pub config_in : RecordState → ConfigState
config_in s = record { seat = s.seat; part = s.part }

-- the record took the order: it was its turn, and one entry more was written, the order's
pub record Takes (v : RecordState) (who : ℕ) (order : DeskOrder) (r : Receipt) (w : RecordState) : Type 0 where
  pub turned : IsTurned (config_in v) order r (config_in w)
  pub entries : w.entries ≡ v.entries ++ entry_got who order r ∷ []
