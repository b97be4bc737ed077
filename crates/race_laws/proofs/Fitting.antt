-- The order that a line asks for fits where the numbers of the line do.
use Rattle.std.proofs.Common.{Option, Some, None, Ok, Err}
use Rattle.mem_base.specs.declared.map.calls.Call.{Call}
use Rattle.mem_base.specs.declared.machine.records.DeskOrder.TheVariants as orders
use Rattle.mem_base.specs.declared.script.changes.MapChange.{MapChange}
use Rattle.mem_base.specs.declared.script.changes.MapChange.TheVariants as changes
use Rattle.mem_base.specs.declared.script.commands.Command.{Command}
use Rattle.mem_base.specs.declared.script.commands.Command.TheVariants as commands
use Rattle.mem_base.specs.declared.script.commands.PassCommand.TheVariants as pass_commands
use Rattle.mem_base.specs.map.Forest.{FitsTypes}
use Rattle.mem_base.specs.script.Spelling.{Text}
use Rattle.mem_base.specs.script.Tasks.{Known, kind_of, Resolved, Task, change_of, known, listener_named, plain, region, space, task_of, then_resolved, unless_taken}
use Rattle.mem_base.specs.script.Tasks.{watcher_named}
use Rattle.mem_base.specs.script.Tasks as tasks
use Rattle.run_laws.specs.Fitting.{FitsChange, FitsCommand}
use Rattle.mem_base.specs.machine.Records.{FitsDeskOrder}

abbrev FitsOwn : Task → Type 0
FitsOwn (tasks.ordered order name) = FitsDeskOrder order
FitsOwn task = Unit {0}

abbrev pub FitsTask : Resolved Task → Type 0
FitsTask (Ok task) = FitsOwn task
FitsTask (Err why) = Unit {0}

abbrev FitsResolved : Resolved Call → Type 0
FitsResolved (Ok call) = FitsTypes call
FitsResolved (Err why) = Unit {0}

task_then : {X : Type 0} (r : Resolved X) (rest : X → Resolved Task) → ((x : X) → FitsTask (rest x)) → FitsTask (then_resolved r rest)
task_then (Ok x) rest h = h x
task_then (Err why) rest h = tt

call_then : {X : Type 0} (r : Resolved X) (rest : X → Resolved Call) → ((x : X) → FitsResolved (rest x)) → FitsResolved (then_resolved r rest)
call_then (Ok x) rest h = h x
call_then (Err why) rest h = tt

free : {I : Type 0} (name : Text) (there : Option I) (task : Task) → FitsOwn task → FitsTask (unless_taken name there task)
free name None task h = h
free name (Some i) task h = tt

change_fits : (k : Known) (change : MapChange) → FitsChange change → FitsResolved (change_of k change)
change_fits k (changes.Add parent offset child priority) h = call_then (region k parent) _ (λ p. call_then (region k child) _ (λ c. tt))
change_fits k (changes.Del parent child) h = call_then (region k parent) _ (λ p. call_then (region k child) _ (λ c. tt))
change_fits k (changes.Move child offset) h = call_then (region k child) _ (λ r. tt)
change_fits k (changes.Resize name size) h = call_then (region k name) _ (λ r. h)
change_fits k (changes.Retarget alias offset) h = call_then (region k alias) _ (λ r. tt)
change_fits k (changes.Enable name) h = call_then (region k name) _ (λ r. tt)
change_fits k (changes.Disable name) h = call_then (region k name) _ (λ r. tt)
change_fits k (changes.Readonly name on) h = call_then (region k name) _ (λ r. tt)
change_fits k (changes.Nonvolatile name on) h = call_then (region k name) _ (λ r. tt)
change_fits k (changes.Unmergeable name on) h = call_then (region k name) _ (λ r. tt)
change_fits k (changes.Romd name on) h = call_then (region k name) _ (λ r. tt)
change_fits k (changes.Log name client on) h = call_then (region k name) _ (λ r. tt)
change_fits k (changes.Global on) h = tt
change_fits k (changes.Map name iova size to translated perm) h = call_then (region k name) _ (λ r. call_then (space k to) _ (λ s. h))
change_fits k (changes.Unmap name iova) h = call_then (region k name) _ (λ r. tt)
change_fits k (changes.Event name offset size number value) h = call_then (region k name) _ (λ r. tt)
change_fits k (changes.Unevent name offset size value) h = call_then (region k name) _ (λ r. tt)

called_fits : (r : Resolved Call) → FitsResolved r → FitsTask (then_resolved r (λ call. Ok (plain (orders.Call call))))
called_fits (Ok call) h = h
called_fits (Err why) h = tt

pub task_fits : (k : Known) (c : Command) → FitsCommand c → FitsTask (task_of k c)
task_fits k (commands.Region name size kind) h = task_then (kind_of k kind) _ (λ it. free name _ _ h)
task_fits k (commands.Space name root) h = task_then (region k root) _ (λ r. free name _ _ tt)
task_fits k (commands.Change change) h = called_fits (change_of k change) (change_fits k change h)
task_fits k (commands.Load name offset bytes) h = task_then (region k name) _ (λ r. tt)
task_fits k (commands.Drop name) h = task_then (region k name) _ (λ r. tt)
task_fits k (commands.Listen name to priority) h = task_then (space k to) _ (λ s. free name _ _ tt)
task_fits k (commands.Unlisten name) h = task_then (known name (listener_named k name)) _ (λ l. tt)
task_fits k (commands.Watch name at first last) h = task_then (region k at) _ (λ r. free name _ _ tt)
task_fits k (commands.Unwatch name) h = task_then (known name (watcher_named k name)) _ (λ n. tt)
task_fits k (commands.Show name) h = task_then (space k name) _ (λ s. tt)
task_fits k (commands.At name addr) h = task_then (space k name) _ (λ s. tt)
task_fits k (commands.Notified number) h = h
task_fits k (commands.Dirty name client) h = task_then (region k name) _ (λ r. tt)
task_fits k (commands.Pass pass (pass_commands.Read name addr len)) h = task_then (space k name) _ (λ s. tt)
task_fits k (commands.Pass pass (pass_commands.Write name addr bytes)) h = task_then (space k name) _ (λ s. tt)
task_fits k (commands.Pass pass (pass_commands.Do change)) h = called_fits (change_of k change) (change_fits k change h.1)
task_fits k (commands.Pass pass (pass_commands.Dma name addr len to_name to_addr)) h = task_then (space k name) _ (λ s. task_then (space k to_name) _ (λ t. tt))
task_fits k _ h = tt
