-- What is seen of the writer's desk of the running machine.
use Rattle.std.specs.Prelude.{◌≡◌, ℕ, ◌+◌, List, flat_map}
use Rattle.mem_base.specs.lists.Every.{Every}
use Rattle.mem_base.specs.map.Limits.{notifier_count}
use Rattle.mem_base.specs.machine.Actors.{own_entries}
use Rattle.mem_base.specs.machine.Answers.{Answer}
use Rattle.mem_base.specs.machine.Orders.{Order}
use Rattle.mem_base.specs.machine.Reaps.{Writer, first_writer}
use Rattle.mem_base.specs.machine.Turns.{Answered, turns, entries_of_turn, last_writer}
use Rattle.mem_base.specs.views.Listening.{Delivery}
use Rattle.epoch_rule.specs.Calls.{generations_in_seen}
use Rattle.epoch_rule.specs.Values.{WriterValue}
use Rattle.cell_laws.specs.TurnCells.{HasFittingCall}
use Rattle.writer_desk.specs.declared.idle.IdleDesk.{IdleDesk}
use Rattle.writer_run.specs.Parts.{AreParts, part_of}
use Rattle.writer_run.specs.Taken.{part_told_before, part_with_calls}
use Rattle.writer_run.specs.Turns.{IsTurn}
use Rattle.seat_run.specs.Written.{HasWritten}

-- the writer's seat, and the writer's part
pub record ConfigState : Type 0 where
  pub seat : WriterValue
  pub part : Writer

-- the same with these calls in the journal
abbrev pub with_calls : List Delivery → ConfigState → ConfigState
with_calls calls c = record c { part = part_with_calls calls c.part }

abbrev pub part_at : IdleDesk → WriterValue → Writer
part_at d v = part_of d (generations_in_seen v.sizes v.seen)

abbrev pub config_state : IdleDesk → WriterValue → ConfigState
config_state d v = record { seat = v; part = part_at d v }

-- The writer's own entries in what the seat has seen are those of turns from the first one on, each of a call that fits its types, and the
-- last of these turns ends in this part, but for the calls that were taken out of its journal: with these before the others it is the part
-- that the turns leave. Where nothing was taken out, they leave this part itself
pub record IsOfTurns (v : WriterValue) (w : Writer) : Type 0 where
  pub pool_words : ℕ
  pub passes : ℕ
  pub taken : List Delivery
  pub orders : List Answered
  pub wide : v.sizes.words ≡ pool_words + notifier_count
  pub counts : v.sizes.passes ≡ passes
  pub fitting : Every HasFittingCall orders
  pub entries : own_entries 0 v.seen ≡ flat_map entries_of_turn (turns (first_writer pool_words passes) orders)
  pub last : part_told_before taken w ≡ last_writer (first_writer pool_words passes) (turns (first_writer pool_words passes) orders)

pub record IsConfig (d : IdleDesk) (v : WriterValue) : Type 0 where
  pub parts : AreParts d (generations_in_seen v.sizes v.seen) v.sizes.words
  pub turns : IsOfTurns v (part_at d v)

-- the call is a turn: the writer's own entries grew by just the turn's
abbrev pub IsTurnOf : ConfigState → Order → Answer → ConfigState → Type 0
IsTurnOf c k answer d = IsTurn c.part k (λ xs. HasWritten c.seat xs d.seat) answer d.part
