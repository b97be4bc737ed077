-- Laws of the lines of a script: each command of a run does what its task says, and what the desk knows of names is what there is.
use Rattle.std.specs.Prelude.{◌≡◌, ◌⊎◌, ℕ, ◌<◌, false, List}
use Rattle.mem_base.specs.map.PassIds.{PassId}
use Rattle.mem_base.specs.declared.machine.records.DeskOrder.{DeskOrder}
use Rattle.mem_base.specs.declared.script.commands.Command.{Command}
use Rattle.mem_base.specs.map.Limits.{most_passes}
use Rattle.mem_base.specs.machine.Reaps.{Writer}
use Rattle.mem_base.specs.machine.World.{World}
use Rattle.mem_base.specs.machine.Composites.{completed}
use Rattle.mem_base.specs.machine.Turns.{turn}
use Rattle.mem_base.specs.machine.Records.{call_of, told}
use Rattle.mem_base.specs.script.Spelling.{Text}
use Rattle.mem_base.specs.script.Shows.{catches_up}
use Rattle.mem_base.specs.script.Run.{step}
use Rattle.mem_base.specs.script.Tasks.{Known, after_order, task_of}
use Rattle.mem_base.specs.script.Race.{NamesItsPass, actor_number, desk_number, is_end, is_par}
use Rattle.run_laws.specs.TaskSteps.{desk_step, known_state, pass_step}
use Rattle.run_laws.specs.KnownNames.{IsChangeOrder, IsKnownOrder, IsKnownTask, IsPassTask, KnowsNames}

-- a command of the desk does its task, and then the watchers catch up
pub record IsDeskLine (k : Known) (w : World) (line : ℕ) (c : Command) : Type 0 where
  pub actor : actor_number c ≡ desk_number
  pub does : step (known_state k w) line c ≡ catches_up (desk_step k w line (task_of k c))
  pub known : IsKnownTask k (task_of k c)

-- a command of a pass does its task
pub record IsPassLine (k : Known) (w : World) (line : ℕ) (c : Command) (pass : PassId) : Type 0 where
  pub actor : actor_number c ≡ pass.0
  pub near : pass.0 < most_passes
  pub does : step (known_state k w) line c ≡ pass_step k w pass line (task_of k c)
  pub known : IsPassTask (task_of k c)

-- a command is the desk's or a pass's
abbrev pub IsSomeonesLine : Known → World → ℕ → Command → Type 0
IsSomeonesLine k w line c = IsDeskLine k w line c ⊎ ((pass : PassId) × IsPassLine k w line c pass)

-- so it is of every command but `par` and `end`, which are nobody's
abbrev pub LinesAreTasks : Type 0
LinesAreTasks = (k : Known) (w : World) (line : ℕ) (c : Command) → KnowsNames k w.writer.desk → NamesItsPass c → is_par c ≡ false → is_end c ≡ false →
    IsSomeonesLine k w line c

-- after an order of the desk by names that are known, and after a change by a pass
pub record OrderKeepsNames (k : Known) (w : World) (order : DeskOrder) : Type 0 where
  pub desk : (name : Text) → IsKnownOrder k order →
      let c = completed w (call_of order) in KnowsNames (after_order k name order (told c.answer)) c.world.writer.desk
  pub pass : IsChangeOrder order → KnowsNames k (completed w (call_of order)).world.writer.desk

abbrev pub OrdersAreKnown : Type 0
OrdersAreKnown = (k : Known) (w : World) (order : DeskOrder) → KnowsNames k w.writer.desk → OrderKeepsNames k w order

-- the same of a turn on the running machine, whatever the passes do before it and meanwhile
pub record TurnKeepsNames (k : Known) (h : Writer) (order : DeskOrder) (replies : List ℕ) : Type 0 where
  pub desk : (name : Text) → IsKnownOrder k order →
      let t = turn h (call_of order) replies in KnowsNames (after_order k name order (told t.answer)) t.writer.desk
  pub pass : IsChangeOrder order → KnowsNames k (turn h (call_of order) replies).writer.desk

abbrev pub TurnsKeepNames : Type 0
TurnsKeepNames = (k : Known) (h : Writer) (order : DeskOrder) (replies : List ℕ) → KnowsNames k h.desk → TurnKeepsNames k h order replies
