-- What a line asks for fits where the numbers of the line do.
use Rattle.std.proofs.Common.{Option, Some, None, Ok, Err}
use Rattle.mem_base.specs.declared.map.calls.Call.{Call}
use Rattle.mem_base.specs.declared.machine.records.DeskOrder.TheVariants as orders
use Rattle.mem_base.specs.declared.script.commands.Command.{Command}
use Rattle.mem_base.specs.declared.script.commands.Command.TheVariants as commands
use Rattle.mem_base.specs.declared.script.commands.PassCommand.TheVariants as pass_commands
use Rattle.mem_base.specs.script.Spelling.{Text}
use Rattle.mem_base.specs.script.Tasks.{Known, kind_of, Resolved, Task, change_of, known, listener_named, plain, region, space, task_of, then_resolved, unless_taken}
use Rattle.mem_base.specs.script.Tasks.{watcher_named}
use Rattle.run_laws.specs.Fitting.{FitsCommand}
use Rattle.script_run.specs.Asking.{FitsTask}

task_then : {X : Type 0} (r : Resolved X) (rest : X → Resolved Task) → ((x : X) → FitsTask (rest x)) → FitsTask (then_resolved r rest)
task_then (Ok x) rest h = h x
task_then (Err why) rest h = tt

free : {I : Type 0} (name : Text) (there : Option I) (task : Task) → FitsTask (Ok task) → FitsTask (unless_taken name there task)
free name None task h = h
free name (Some i) task h = tt

called : (r : Resolved Call) → FitsTask (then_resolved r (λ call. Ok (plain (orders.Call call))))
called (Ok call) = tt
called (Err why) = tt

pub task_fits : (k : Known) (c : Command) → FitsCommand c → FitsTask (task_of k c)
task_fits k (commands.Region name size kind) h = task_then (kind_of k kind) _ (λ it. free name _ _ tt)
task_fits k (commands.Space name root) h = task_then (region k root) _ (λ r. free name _ _ tt)
task_fits k (commands.Change change) h = called (change_of k change)
task_fits k (commands.Load name offset bytes) h = task_then (region k name) _ (λ r. tt)
task_fits k (commands.Drop name) h = task_then (region k name) _ (λ r. tt)
task_fits k (commands.Listen name to priority) h = task_then (space k to) _ (λ s. free name _ _ tt)
task_fits k (commands.Unlisten name) h = task_then (known name (listener_named k name)) _ (λ l. tt)
task_fits k (commands.Watch name at first last) h = task_then (region k at) _ (λ r. free name _ _ tt)
task_fits k (commands.Unwatch name) h = task_then (known name (watcher_named k name)) _ (λ n. tt)
task_fits k (commands.Show name) h = task_then (space k name) _ (λ s. tt)
task_fits k (commands.At name addr) h = task_then (space k name) _ (λ s. tt)
task_fits k (commands.Dirty name client) h = task_then (region k name) _ (λ r. tt)
task_fits k (commands.Pass pass (pass_commands.Read name addr len)) h = task_then (space k name) _ (λ s. h.1)
task_fits k (commands.Pass pass (pass_commands.Write name addr bytes)) h = task_then (space k name) _ (λ s. tt)
task_fits k (commands.Pass pass (pass_commands.Do change)) h = called (change_of k change)
task_fits k (commands.Pass pass (pass_commands.Dma name addr len to_name to_addr)) h = task_then (space k name) _ (λ s. task_then (space k to_name) _ (λ t. h.1))
task_fits k _ h = tt
