-- What the code says of a line: its task, or the refusal of one of its names, as the definitions have them.
use Rattle.std.specs.Prelude.{◌≡◌, [], ◌∷◌, ◌++◌, Some, None, Result, Ok, Err, IfOk}
use Rattle.mem_base.specs.declared.machine.records.DeskOrder.{DeskOrder}
use Rattle.mem_base.specs.access.AccessSteps.{reading, writing}
use Rattle.mem_base.specs.script.Spelling.{Text}
use Rattle.mem_base.specs.script.RefusalLines.{taken_text, unknown_text}
use Rattle.mem_base.specs.script.Tasks.{Known, Resolved, Task, listener_named, region_named, space_named, watcher_named, with_order}
use Rattle.mem_base.specs.script.Tasks as tasks
use Rattle.race_lines.specs.declared.tasks.LineTask.{LineTask}
use Rattle.race_lines.specs.declared.tasks.LineTask.TheVariants.{Idle, Ordered, Shown, Found, Watched, Unwatched, Entered, Left, Read, Written, Copied}
use Rattle.race_lines.specs.declared.tasks.Naming.{Naming}
use Rattle.race_lines.specs.declared.tasks.Naming.TheVariants.{Keeps, MakesRegion, MakesSpace, MakesListener, DropsRegion, DropsListener}
use Rattle.race_lines.specs.declared.tasks.Refused.{Refused}
use Rattle.race_lines.specs.declared.tasks.Refused.TheVariants.{Unknown, Taken}

-- the name that an order makes, if any
abbrev pub name_made : Naming → Text
name_made (MakesRegion name kind) = name.now
name_made (MakesSpace name) = name.now
name_made (MakesListener name) = name.now
name_made _ = []

abbrev pub task_meant : LineTask → Task
task_meant Idle = tasks.idle
task_meant (Ordered order naming) = tasks.ordered order (name_made naming)
task_meant (Shown space) = tasks.shown space
task_meant (Found space addr) = tasks.found space addr
task_meant (Watched name region first last) = tasks.watched name.now region first last
task_meant (Unwatched name watcher) = tasks.unwatched watcher
task_meant Entered = tasks.entered
task_meant Left = tasks.left
task_meant (Read space addr len) = tasks.accessed space addr (reading len)
task_meant (Written space addr bytes) = tasks.accessed space addr (writing bytes.now)
task_meant (Copied space addr len to_space to_addr) = tasks.copied space addr len to_space to_addr

-- a name that stands for nothing, or one that is to be made and stands for something
abbrev pub refused_text : Refused → Text
refused_text (Unknown name) = unknown_text name.now
refused_text (Taken name) = taken_text name.now

-- the task of a line, or its refusal
abbrev pub resolved : Result LineTask Refused → Resolved Task
resolved (Ok task) = Ok (task_meant task)
resolved (Err why) = Err (refused_text why)

-- what an order does to what is known, once it is accepted: this naming, and nothing else
abbrev pub named_by : Known → Naming → Known
named_by k Keeps = k
named_by k (MakesRegion name kind) =
    record k { names = record k.names { regions = k.names.regions ++ name.now ∷ []; kinds = k.names.kinds ++ kind ∷ [] } }
named_by k (MakesSpace name) = record k { names = record k.names { spaces = k.names.spaces ++ name.now ∷ [] } }
named_by k (MakesListener name) = record k { names = record k.names { listeners = k.names.listeners ++ name.now ∷ [] } }
named_by k (DropsRegion name region) = record k { dropped = k.dropped ++ region ∷ [] }
named_by k (DropsListener name listener) = record k { gone = k.gone ++ listener ∷ [] }

-- an order that makes no name and lets none go, whatever is known
abbrev pub NamesNothing : DeskOrder → Type 0
NamesNothing order = (k : Known) (name : Text) → with_order k name order ≡ k

-- the names stand for what they let go, or for nothing where they are to be made
abbrev pub AreThere : Known → Naming → Type 0
AreThere k Keeps = Unit {0}
AreThere k (MakesRegion name kind) = region_named k name.now ≡ None
AreThere k (MakesSpace name) = space_named k name.now ≡ None
AreThere k (MakesListener name) = listener_named k name.now ≡ None
AreThere k (DropsRegion name region) = region_named k name.now ≡ Some region
AreThere k (DropsListener name listener) = listener_named k name.now ≡ Some listener

-- the naming is that of the order
pub record IsNaming (k : Known) (order : DeskOrder) (naming : Naming) : Type 0 where
  pub does : with_order k (name_made naming) order ≡ named_by k naming
  pub there : AreThere k naming

-- the names of a task, as they were when it was made
abbrev pub HasItsNames : Known → LineTask → Type 0
HasItsNames k (Ordered order naming) = IsNaming k order naming
HasItsNames k (Watched name region first last) = watcher_named k name.now ≡ None
HasItsNames k (Unwatched name watcher) = watcher_named k name.now ≡ Some watcher
HasItsNames k task = Unit {0}

-- the code's answer is the definition's, and the names are there
pub record Resolves (k : Known) (task : Result LineTask Refused) (r : Resolved Task) : Type 0 where
  pub is : resolved task ≡ r
  pub names : IfOk task (HasItsNames k)
