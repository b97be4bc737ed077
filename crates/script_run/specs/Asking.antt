-- What a line asks of the machine, and what it got.
use Rattle.std.specs.Prelude.{◌≡◌, ◌≤◌, ℕ, true, Option, Some, None, Ok}
use Rattle.mem_base.specs.declared.machine.records.DeskAnswer.{DeskAnswer}
use Rattle.mem_base.specs.declared.machine.records.DeskEntry.{DeskEntry}
use Rattle.mem_base.specs.declared.machine.records.DeskOrder.{DeskOrder}
use Rattle.mem_base.specs.access.AccessSteps.{reading}
use Rattle.mem_base.specs.machine.World.{World, is_at_rest}
use Rattle.mem_base.specs.machine.Composites.{completed}
use Rattle.mem_base.specs.machine.Records.{call_of, told}
use Rattle.mem_base.specs.script.RaceLines.{no_entry}
use Rattle.mem_base.specs.script.Tasks.{Resolved, Task, accessed, copied, ordered}
use Rattle.race_lines.specs.DeskLines.{entry_with}

-- at most 64 bytes are read or copied at once
abbrev pub FitsTask : Resolved Task → Type 0
FitsTask (Ok (accessed space addr (reading n))) = n ≤ 64
FitsTask (Ok (copied from addr n to to_addr)) = n ≤ 64
FitsTask task = Unit {0}

-- an order is the defined call of the writer; nothing is due or unfilled after it, and the passes are as they were
pub record IsAnswered (w : World) (order : DeskOrder) (answer : DeskAnswer) (v : World) : Type 0 where
  pub world : v ≡ (completed w (call_of order)).world
  pub answer_is : answer ≡ told (completed w (call_of order)).answer
  pub rests : is_at_rest v.writer.desk ≡ true
  pub passes : v.passes ≡ w.passes

-- the order of a task was answered, where it has one
abbrev pub TakesOwn : World → Resolved Task → Option DeskAnswer → World → Type 0
TakesOwn w (Ok (ordered order name)) (Some answer) v = IsAnswered w order answer v
TakesOwn w (Ok (ordered order name)) None v = ⊥
TakesOwn w task (Some answer) v = ⊥
TakesOwn w task None v = v ≡ w

-- what a line got, with the lengths of the journal before its order and after it
abbrev pub entry_of : Option DeskAnswer → ℕ → ℕ → DeskEntry
entry_of None from to = no_entry
entry_of (Some answer) from to = entry_with answer from to
