-- A line of a pass, by what the pass keeps of it until the names at the end of the phase are known.
use Rattle.std.specs.Prelude.{◌≡◌, ℕ, List, [], Ok, Err}
use Rattle.mem_base.specs.map.PassIds.{PassId}
use Rattle.mem_base.specs.declared.map.ids.SpaceId.{SpaceId}
use Rattle.mem_base.specs.declared.machine.records.DeskEntry.{DeskEntry}
use Rattle.mem_base.specs.declared.machine.records.DeskOrder.{DeskOrder}
use Rattle.mem_base.specs.access.AccessSteps.{reading, writing}
use Rattle.mem_base.specs.machine.Generations.{Generation}
use Rattle.mem_base.specs.machine.PassTurns.{PassTurn, number_entered}
use Rattle.mem_base.specs.machine.PassTurns as pass_turns
use Rattle.mem_base.specs.script.Spelling.{Text}
use Rattle.mem_base.specs.script.Named.{Names}
use Rattle.mem_base.specs.script.Output.{dma_line, enter_line, leave_line, read_line, write_line}
use Rattle.mem_base.specs.script.RefusalLines.{refused_line}
use Rattle.mem_base.specs.script.Tasks.{Resolved, Task}
use Rattle.mem_base.specs.script.Tasks as tasks
use Rattle.mem_base.specs.script.RaceLines.{Said, do_text, line_of_pass, says, says_with}
use Rattle.race_lines.specs.declared.passes.PassSaid.{PassSaid}
use Rattle.race_lines.specs.declared.passes.PassSaid.TheVariants.{Nothing, Refused, Entered, Left, Read, Written, Copied, Answered}
use Rattle.race_lines.specs.declared.tasks.Refused as refusals
use Rattle.race_lines.specs.DeskLines.{entry_with}
use Rattle.race_lines.specs.LineTasks.{refused_text}

-- what the line says, by the names at the end of the phase
abbrev pub said_of : Names → PassId → ℕ → PassSaid → Said
said_of names pass line Nothing = says []
said_of names pass line (Refused why) = says (refused_line line (refused_text why))
said_of names pass line (Entered number) = says (enter_line pass number)
said_of names pass line Left = says (leave_line pass)
said_of names pass line (Read access bytes) = says (read_line pass access bytes)
said_of names pass line (Written access) = says (write_line pass access)
said_of names pass line (Copied access) = says (dma_line pass access)
said_of names pass line (Answered answer from to) = says_with (do_text names line pass answer) (entry_with answer from to)

-- what is kept of a line gives what the line says, whatever the names at the end of the phase are
abbrev pub IsKept : List Generation → PassId → Resolved Task → PassTurn → DeskEntry → PassSaid → Type 0
IsKept published pass task t e said = (names : Names) (line : ℕ) → (line_of_pass published names pass line task t e).said ≡ said_of names pass line said

-- what is to be kept of each line: by its refusal, by the generation that the pass entered, by how its access ended and what
-- it read, or by the answer to its order
pub record PassesKeep (published : List Generation) (pass : PassId) (t : PassTurn) (e : DeskEntry) : Type 0 where
  pub refused : (why : refusals.Refused) → IsKept published pass (Err (refused_text why)) t e (Refused why)
  pub entered : IsKept published pass (Ok tasks.entered) t e (Entered (number_entered (pass_turns.entered pass t)))
  pub left : IsKept published pass (Ok tasks.left) t e Left
  pub reads : (s : SpaceId) (addr n : ℕ) → let x = pass_turns.accessed published pass s addr (reading n) t in
      IsKept published pass (Ok (tasks.accessed s addr (reading n))) t e (Read x.answer x.bytes)
  pub writes : (s : SpaceId) (addr : ℕ) (bytes : List ℕ) → let x = pass_turns.accessed published pass s addr (writing bytes) t in
      IsKept published pass (Ok (tasks.accessed s addr (writing bytes))) t e (Written x.answer)
  pub copies : (s : SpaceId) (addr n : ℕ) (to : SpaceId) (to_addr : ℕ) → let x = pass_turns.copied published pass s addr n to to_addr t in
      IsKept published pass (Ok (tasks.copied s addr n to to_addr)) t e (Copied x.answer)
  pub orders : (order : DeskOrder) (name : Text) → IsKept published pass (Ok (tasks.ordered order name)) t e (Answered e.answer e.from e.to)

abbrev pub LinesAreKept : Type 0
LinesAreKept = (published : List Generation) (pass : PassId) (t : PassTurn) (e : DeskEntry) → PassesKeep published pass t e
