-- What a line of a pass copies is at most 64 bytes; and whose line it is.
use Rattle.std.proofs.Common.{◌≤◌, ℕ, Option, Some, None, Result, Ok, Err, sym, subst, arith}
use Rattle.mem_base.specs.declared.map.calls.Call.{Call}
use Rattle.mem_base.specs.declared.machine.records.DeskOrder.TheVariants as orders
use Rattle.mem_base.specs.declared.script.commands.Command.{Command}
use Rattle.mem_base.specs.declared.script.commands.Command.TheVariants as commands
use Rattle.mem_base.specs.declared.script.commands.PassCommand.TheVariants as pass_commands
use Rattle.mem_base.specs.script.Spelling.{Text}
use Rattle.mem_base.specs.script.Tasks.{Known, kind_of, Resolved, Task, change_of, known, listener_named, plain, region, space, task_of, then_resolved, unless_taken}
use Rattle.mem_base.specs.script.Tasks.{watcher_named}
use Rattle.mem_base.specs.script.Tasks as tasks
use Rattle.run_laws.specs.Fitting.{FitsCommand}
use Rattle.race_lines.specs.declared.tasks.LineTask.{LineTask}
use Rattle.race_lines.specs.declared.tasks.LineTask.TheVariants.{Idle, Ordered, Shown, Found, Watched, Unwatched, Entered, Left, Read, Written, Copied}
use Rattle.race_lines.specs.declared.tasks.Refused.{Refused}
use Rattle.race_lines.specs.LineTasks.{Resolves}
use Rattle.race_outside.specs.Passes.{FitsTask}

abbrev CopiesFew : Task → Type 0
CopiesFew (tasks.copied from addr n to to_addr) = n ≤ 64
CopiesFew task = Unit {0}

abbrev AreFew : Resolved Task → Type 0
AreFew (Ok task) = CopiesFew task
AreFew (Err why) = Unit {0}

task_then : {X : Type 0} (r : Resolved X) (rest : X → Resolved Task) → ((x : X) → AreFew (rest x)) → AreFew (then_resolved r rest)
task_then (Ok x) rest h = h x
task_then (Err why) rest h = tt

free : {I : Type 0} (name : Text) (there : Option I) (task : Task) → CopiesFew task → AreFew (unless_taken name there task)
free name None task h = h
free name (Some i) task h = tt

called : (r : Resolved Call) → AreFew (then_resolved r (λ call. Ok (plain (orders.Call call))))
called (Ok call) = tt
called (Err why) = tt

copies_few : (k : Known) (c : Command) → FitsCommand c → AreFew (task_of k c)
copies_few k (commands.Region name size kind) h = task_then (kind_of k kind) _ (λ it. free name _ _ tt)
copies_few k (commands.Space name root) h = task_then (region k root) _ (λ r. free name _ _ tt)
copies_few k (commands.Change change) h = called (change_of k change)
copies_few k (commands.Load name offset bytes) h = task_then (region k name) _ (λ r. tt)
copies_few k (commands.Drop name) h = task_then (region k name) _ (λ r. tt)
copies_few k (commands.Listen name to priority) h = task_then (space k to) _ (λ s. free name _ _ tt)
copies_few k (commands.Unlisten name) h = task_then (known name (listener_named k name)) _ (λ l. tt)
copies_few k (commands.Watch name at first last) h = task_then (region k at) _ (λ r. free name _ _ tt)
copies_few k (commands.Unwatch name) h = task_then (known name (watcher_named k name)) _ (λ n. tt)
copies_few k (commands.Show name) h = task_then (space k name) _ (λ s. tt)
copies_few k (commands.At name addr) h = task_then (space k name) _ (λ s. tt)
copies_few k (commands.Dirty name client) h = task_then (region k name) _ (λ r. tt)
copies_few k (commands.Pass pass (pass_commands.Read name addr len)) h = task_then (space k name) _ (λ s. tt)
copies_few k (commands.Pass pass (pass_commands.Write name addr bytes)) h = task_then (space k name) _ (λ s. tt)
copies_few k (commands.Pass pass (pass_commands.Do change)) h = called (change_of k change)
copies_few k (commands.Pass pass (pass_commands.Dma name addr len to_name to_addr)) h = task_then (space k name) _ (λ s. task_then (space k to_name) _ (λ t. h.1))
copies_few k _ h = tt

few : (len room : ℕ) → len ≤ 64 → 64 ≤ room → len ≤ room
few len room h k = omega (arith, h, k)

pub fits_task : (k : Known) (c : Command) (room : ℕ) (task : Result LineTask Refused) → Resolves k task (task_of k c) → FitsCommand c → 64 ≤ room
    → FitsTask room task
fits_task k c room (Ok (Ordered order naming)) r fits wide = tt
fits_task k c room (Ok (Copied space addr len to_space to_addr)) r fits wide =
    few len room (subst AreFew (sym r.is) (copies_few k c fits)) wide
fits_task k c room (Ok Idle) r fits wide = tt
fits_task k c room (Ok (Shown space)) r fits wide = tt
fits_task k c room (Ok (Found space addr)) r fits wide = tt
fits_task k c room (Ok (Watched name region first last)) r fits wide = tt
fits_task k c room (Ok (Unwatched name watcher)) r fits wide = tt
fits_task k c room (Ok Entered) r fits wide = tt
fits_task k c room (Ok Left) r fits wide = tt
fits_task k c room (Ok (Read space addr len)) r fits wide = tt
fits_task k c room (Ok (Written space addr bytes)) r fits wide = tt
fits_task k c room (Err why) r fits wide = tt
