-- The lines of a pass in a block, and their tasks once their names are resolved.
use Rattle.std.specs.Prelude.{◌≡◌, ℕ, ◌<◌, Bool, true, false, List, [], ◌∷◌, take, Option, None, Some, Result, Ok, Err}
use Rattle.std.specs.Borrow.{Bor}
use Rattle.mem_base.specs.access.AccessSteps.{reading, writing}
use Rattle.mem_base.specs.declared.map.ids.SpaceId.{SpaceId}
use Rattle.mem_base.specs.declared.script.commands.Command.{Command}
use Rattle.mem_base.specs.declared.script.commands.Command.TheVariants.{Pass}
use Rattle.mem_base.specs.declared.script.commands.PassCommand.TheVariants as pass_commands
use Rattle.mem_base.specs.map.Limits.{most_passes}
use Rattle.mem_base.specs.script.Race.{actor_number}
use Rattle.mem_base.specs.script.Scripts.{Line}
use Rattle.mem_base.specs.script.Spelling.{Text}
use Rattle.mem_base.specs.script.Tasks.{Known, Resolved, Task, space_named, task_of, ordered, entered, left, accessed, copied}
use Rattle.run_laws.specs.Fitting.{FitsCommand}
use Rattle.race_lines.specs.declared.tasks.LineTask.{LineTask}
use Rattle.race_lines.specs.declared.tasks.LineTask.TheVariants as asked
use Rattle.race_lines.specs.declared.tasks.Refused as whys
use Rattle.race_lines.specs.LineTasks.{refused_text}
use Rattle.race_block.specs.declared.tasks.PassTask.{PassTask}
use Rattle.race_block.specs.declared.tasks.PassTask.TheVariants.{Refused, Order, Enter, Leave, Read, Write, Copy}
use Rattle.race_block.specs.declared.tasks.BlockLine.{BlockLine}
use Rattle.race_block.specs.declared.tasks.OwnLine.{OwnLine}
use Rattle.race_block.specs.declared.tasks.PassLines.{PassLines}
use Rattle.race_block.specs.declared.tasks.PassLines.TheVariants as kinds
use Rattle.race_block.specs.Desks.{lines_meant}

-- the task is what a line asks for, once its names are resolved
abbrev pub StandsFor : PassTask → Resolved Task → Type 0
StandsFor (Refused why) r = r ≡ Err (refused_text why)
StandsFor (Order order) r = (name : Text) × (r ≡ Ok (ordered order name))
StandsFor Enter r = r ≡ Ok entered
StandsFor Leave r = r ≡ Ok left
StandsFor (Read space addr len) r = r ≡ Ok (accessed space addr (reading len))
StandsFor (Write space addr bytes) r = r ≡ Ok (accessed space addr (writing bytes.now))
StandsFor (Copy from addr len to to_addr) r = r ≡ Ok (copied from addr len to to_addr)

-- these are the tasks of a script's lines, by what is known as the block starts
abbrev pub AreTasksOf : Known → List Line → List BlockLine → Type 0
AreTasksOf k [] [] = Unit {0}
AreTasksOf k (line ∷ lines) (x ∷ xs) = (x.number ≡ line.0) × StandsFor x.task (task_of k line.1) × AreTasksOf k lines xs
AreTasksOf k _ _ = ⊥

-- the line with its task, by what is known
abbrev pub IsTaskOf : Known → Line → BlockLine → Type 0
IsTaskOf k line x = (x.number ≡ line.0) × StandsFor x.task (task_of k line.1)

-- what is at hand, if anything, is a name and the space that it stands for
abbrev pub IsLast : Known → Option (Bor Text × SpaceId) → Type 0
IsLast k None = Unit {0}
IsLast k (Some x) = space_named k x.0.now ≡ Some x.1

-- how many bytes a line copies at most
abbrev pub copy_room : ℕ
copy_room = 64

-- a task that a pass can have
abbrev pub IsOfPass : Result LineTask whys.Refused → Type 0
IsOfPass (Err why) = Unit {0}
IsOfPass (Ok (asked.Ordered order naming)) = Unit {0}
IsOfPass (Ok asked.Entered) = Unit {0}
IsOfPass (Ok asked.Left) = Unit {0}
IsOfPass (Ok (asked.Read space addr len)) = Unit {0}
IsOfPass (Ok (asked.Written space addr bytes)) = Unit {0}
IsOfPass (Ok (asked.Copied space addr len to_space to_addr)) = Unit {0}
IsOfPass _ = ⊥

-- a line of a pass, the numbers of whose command fit
abbrev pub IsPassLine : OwnLine → Type 0
IsPassLine x = (actor_number x.line.now.1 < most_passes) × FitsCommand x.line.now.1

-- the tasks of a pass's lines, once their names are resolved
abbrev pub tasks_in : PassLines → List BlockLine
tasks_in (kinds.Unresolved lines names) = []
tasks_in (kinds.Resolved tasks) = tasks.items

-- these are the tasks of the lines, by the names that these have
abbrev pub AreTasksIn : PassLines → List BlockLine → Type 0
AreTasksIn (kinds.Unresolved lines names) xs = AreTasksOf names.now (lines_meant lines.items) xs
AreTasksIn (kinds.Resolved tasks) xs = xs ≡ tasks.items

-- these are the tasks of the first of the lines
abbrev pub AreFirstTasksOf : Known → List OwnLine → List BlockLine → Type 0
AreFirstTasksOf k lines xs = (n : ℕ) × AreTasksOf k (lines_meant (take n lines)) xs

abbrev pub AreFirstTasksIn : PassLines → List BlockLine → Type 0
AreFirstTasksIn (kinds.Unresolved lines names) xs = AreFirstTasksOf names.now lines.items xs
AreFirstTasksIn (kinds.Resolved tasks) xs = (n : ℕ) × (xs ≡ take n tasks.items)

-- the command of a pass is an order to the desk
abbrev pub gives_order : Command → Bool
gives_order (Pass pass (pass_commands.Do change)) = true
gives_order _ = false

-- these are the lines of the script, and their names are resolved by what is known, or are still to be
abbrev pub AreLinesBy : Known → List Line → PassLines → Type 0
AreLinesBy k lines (kinds.Unresolved own names) = (lines_meant own.items ≡ lines) × (names.now ≡ k)
AreLinesBy k lines (kinds.Resolved tasks) = AreTasksOf k lines tasks.items
