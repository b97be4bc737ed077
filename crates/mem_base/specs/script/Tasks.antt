-- What a line of a script asks for, once its names are resolved. No machine is needed for that: the desk alone makes names and
-- lets them go, so the answers to its own orders tell which names there are.
-- This project's own rule: names are resolved from left to right, and then a new name is tried.
-- `do Ok (X (← region k a) (← space k b))` resolves the name of a region, then that of a space. At the first name that stands
-- for nothing the line is refused, and what is given is the text of that refusal.
use Rattle.std.specs.Prelude.{if◌then◌else◌, ℕ, ◌==◌, not, true, false, is_some, unwrap_or, List, [], ◌∷◌, ◌++◌, length}
use Rattle.std.specs.Prelude.{Option, Some, None, option_map, Result, Ok, Err, ℤ}
use Rattle.std.specs.List.{list_any}
use Rattle.mem_base.specs.declared.map.ids.RegionId.{RegionId}
use Rattle.mem_base.specs.declared.map.ids.SpaceId.{SpaceId}
use Rattle.mem_base.specs.declared.map.ids.ListenerId.{ListenerId}
use Rattle.mem_base.specs.declared.map.ids.WatcherId.{WatcherId}
use Rattle.mem_base.specs.declared.map.kinds.Kind.{Kind}
use Rattle.mem_base.specs.declared.map.kinds.Kind.TheVariants as kinds
use Rattle.mem_base.specs.declared.map.calls.Call.{Call}
use Rattle.mem_base.specs.declared.map.calls.Call.TheVariants as calls
use Rattle.mem_base.specs.declared.machine.records.DeskOrder.{DeskOrder}
use Rattle.mem_base.specs.declared.machine.records.DeskOrder.TheVariants as orders
use Rattle.mem_base.specs.declared.machine.records.DeskAnswer.{DeskAnswer}
use Rattle.mem_base.specs.declared.machine.records.DeskAnswer.TheVariants as answers
use Rattle.mem_base.specs.declared.script.changes.MapChange.{MapChange}
use Rattle.mem_base.specs.declared.script.changes.MapChange.TheVariants as changes
use Rattle.mem_base.specs.declared.script.commands.Command.{Command}
use Rattle.mem_base.specs.declared.script.commands.Command.TheVariants as commands
use Rattle.mem_base.specs.declared.script.commands.PassCommand.{PassCommand}
use Rattle.mem_base.specs.declared.script.commands.PassCommand.TheVariants as pass_commands
use Rattle.mem_base.specs.declared.script.commands.RegionKind.{RegionKind}
use Rattle.mem_base.specs.declared.script.commands.RegionKind.TheVariants as region_kinds
use Rattle.mem_base.specs.access.AccessSteps.{Transfer, reading, writing}
use Rattle.mem_base.specs.machine.Reaps.{is_among}
use Rattle.mem_base.specs.script.Spelling.{Text}
use Rattle.mem_base.specs.script.Named.{Names, no_names}
use Rattle.mem_base.specs.script.RefusalLines.{taken_text, unknown_text}
use Rattle.mem_base.specs.script.Watching.{Watcher, is_watcher}
use Rattle.mem_base.specs.script.States.{number_from}
use Rattle.mem_base.specs.script.WriterSteps.{ioevent}

-- What is known

-- what an actor knows of the names: those that were made, which regions were dropped, which listeners left, and the watchers
pub record Known : Type 0 where
  pub names : Names
  pub dropped : List RegionId
  pub gone : List ListenerId
  pub watchers : List Watcher  -- in order of joining

-- what is known before the first line: no names
abbrev pub known_at_first : Known
known_at_first = record { names = no_names; dropped = []; gone = []; watchers = [] }

-- the region of a number
abbrev pub region_id : ℕ → RegionId
region_id n = record { 0 = n }

-- what a name stands for: of all that had it, the one that is there

-- the region that a name stands for, of those that were not dropped
abbrev pub region_named : Known → Text → Option RegionId
region_named k name = option_map region_id (number_from 0 k.names.regions (λ n. not (is_among k.dropped (region_id n))) name)

-- the address space that a name stands for
abbrev pub space_named : Known → Text → Option SpaceId
space_named k name = option_map (λ n. record { 0 = n }) (number_from 0 k.names.spaces (λ n. true) name)

-- the listener that a name stands for, of those that have not left
abbrev pub listener_named : Known → Text → Option ListenerId
listener_named k name = option_map (λ n. record { 0 = n }) (number_from 0 k.names.listeners (λ n. not (list_any (λ l. l.0 == n) k.gone)) name)

-- the watcher that a name stands for, of those that have not left
abbrev pub watcher_named : Known → Text → Option WatcherId
watcher_named k name = option_map (λ n. record { 0 = n }) (number_from 0 k.names.notifiers (λ n. list_any (is_watcher n) k.watchers) name)

-- Resolving names

-- something made of names, or what is said where one of them is refused
abbrev pub Resolved : Type 0 → Type 0
Resolved X = Result X Text

-- what follows a name that was resolved; one that was not ends the line
abbrev pub then_resolved : {X Y : Type 0} → Resolved X → (X → Resolved Y) → Resolved Y
then_resolved (Ok x) rest = rest x
then_resolved (Err why) rest = Err why

infixl 10 ◌>>=◌
abbrev pub ◌>>=◌ : {X Y : Type 0} → Resolved X → (X → Resolved Y) → Resolved Y
resolved >>= rest = then_resolved resolved rest

-- what a name stands for, or the refusal that tells that it stands for nothing
abbrev pub known : {I : Type 0} → Text → Option I → Resolved I
known name None = Err (unknown_text name)
known name (Some id) = Ok id

-- the region of a name, or the refusal
abbrev pub region : Known → Text → Resolved RegionId
region k name = known name (region_named k name)

-- the space of a name, or the refusal
abbrev pub space : Known → Text → Resolved SpaceId
space k name = known name (space_named k name)

-- a name that is to be made stands for nothing yet
abbrev pub unless_taken : {I X : Type 0} → Text → Option I → X → Resolved X
unless_taken name there x = if is_some there then Err (taken_text name) else Ok x

-- Tasks

-- what a line asks for, once its names are resolved
pub data Task : Type 0 where
  idle : Task
  ordered : DeskOrder → Text → Task  -- an order, and the name that it makes, if any
  shown : SpaceId → Task  -- the view of a space
  found : SpaceId → ℕ → Task  -- the spot at an address
  watched : Text → RegionId → ℕ → ℕ → Task  -- a watcher with this name joins, for a range of a region's table
  unwatched : WatcherId → Task
  -- of a pass
  entered : Task
  left : Task
  accessed : SpaceId → ℕ → Transfer → Task
  copied : SpaceId → ℕ → ℕ → SpaceId → ℕ → Task  -- a number of bytes, from an address to an address

-- an order that makes no name
abbrev pub plain : DeskOrder → Task
plain order = ordered order []

-- the call of a line that changes the map
abbrev pub change_of : Known → MapChange → Resolved Call
change_of k (changes.Add parent offset child priority) = do Ok (calls.Add (← region k parent) offset (← region k child) priority)
change_of k (changes.Del parent child) = do Ok (calls.Del (← region k parent) (← region k child))
change_of k (changes.Move child offset) = do Ok (calls.Move (← region k child) offset)
change_of k (changes.Resize name size) = do Ok (calls.Resize (← region k name) size)
change_of k (changes.Retarget alias offset) = do Ok (calls.Retarget (← region k alias) offset)
change_of k (changes.Enable name) = do Ok (calls.Enable (← region k name) true)
change_of k (changes.Disable name) = do Ok (calls.Enable (← region k name) false)
change_of k (changes.Readonly name on) = do Ok (calls.Readonly (← region k name) on)
change_of k (changes.Nonvolatile name on) = do Ok (calls.Nonvolatile (← region k name) on)
change_of k (changes.Unmergeable name on) = do Ok (calls.Unmergeable (← region k name) on)
change_of k (changes.Romd name on) = do Ok (calls.Romd (← region k name) on)
change_of k (changes.Log name client on) = do Ok (calls.Log (← region k name) client on)
change_of k (changes.Global on) = Ok (calls.Global on)
change_of k (changes.Map name iova size to translated perm) =
    do Ok (calls.Map (← region k name) iova size (← space k to) translated perm)
change_of k (changes.Unmap name iova) = do Ok (calls.Unmap (← region k name) iova)
change_of k (changes.Event name offset size number value) = do Ok (calls.Event (← region k name) (ioevent offset size value number))
change_of k (changes.Unevent name offset size value) =
    do Ok (calls.Unevent (← region k name) offset size (is_some value) (unwrap_or value 0))

-- a new region is ordered, unless its name is taken
abbrev pub region_made : Known → Text → Kind → ℕ → Resolved Task
region_made k name kind size = unless_taken name (region_named k name) (ordered (orders.Call (calls.Region kind size)) name)

-- the kind of a region: the target of an alias has a name
abbrev pub kind_of : Known → RegionKind → Resolved Kind
kind_of k region_kinds.Container = Ok kinds.Container
kind_of k region_kinds.Ram = Ok kinds.Ram
kind_of k region_kinds.Rom = Ok kinds.Rom
kind_of k (region_kinds.RomDevice device) = Ok (kinds.RomDevice device)
kind_of k (region_kinds.Io device) = Ok (kinds.Io device)
kind_of k region_kinds.Iommu = Ok kinds.Iommu
kind_of k (region_kinds.Alias target offset) = do Ok (kinds.Alias (← region k target) offset)
kind_of k region_kinds.Reserve = Ok kinds.Reserve

-- spaces and listeners are numbered in order of making

-- a new address space is ordered, unless its name is taken
abbrev pub space_made : Known → Text → RegionId → Resolved Task
space_made k name root =
    unless_taken name (space_named k name) (ordered (orders.Call (calls.Space (record { 0 = length k.names.spaces }) root)) name)

-- a new listener is ordered, unless its name is taken
abbrev pub listened : Known → Text → SpaceId → ℤ → Resolved Task
listened k name to priority =
    unless_taken name (listener_named k name) (ordered (orders.Listen (record { 0 = length k.names.listeners }) to priority) name)

-- what a line of a pass asks for
abbrev pub pass_task : Known → PassCommand → Resolved Task
pass_task k pass_commands.Enter = Ok entered
pass_task k pass_commands.Leave = Ok left
pass_task k (pass_commands.Read name addr len) = do Ok (accessed (← space k name) addr (reading len))
pass_task k (pass_commands.Write name addr bytes) = do Ok (accessed (← space k name) addr (writing bytes))
pass_task k (pass_commands.Do change) = do Ok (plain (orders.Call (← change_of k change)))
pass_task k (pass_commands.Dma name addr len to_name to_addr) = do Ok (copied (← space k name) addr len (← space k to_name) to_addr)

-- what a line asks for
abbrev pub task_of : Known → Command → Resolved Task
task_of k (commands.Machine size) = Ok idle
task_of k (commands.Region name size kind) = do region_made k name (← kind_of k kind) size
task_of k (commands.Space name root) = do space_made k name (← region k root)
task_of k (commands.Change change) = do Ok (plain (orders.Call (← change_of k change)))
task_of k (commands.Load name offset bytes) = do Ok (plain (orders.Load (← region k name) offset bytes))
task_of k (commands.Drop name) = do Ok (plain (orders.Call (calls.Drop (← region k name))))
task_of k commands.Begin = Ok (plain orders.Begin)
task_of k commands.Commit = Ok (plain orders.Commit)
task_of k commands.Reap = Ok (plain orders.Reap)
task_of k (commands.Listen name to priority) = do listened k name (← space k to) priority
task_of k (commands.Unlisten name) = do Ok (plain (orders.Unlisten (← known name (listener_named k name))))
task_of k (commands.Watch name at first last) = do
  r ← region k at
  unless_taken name (watcher_named k name) (watched name r first last)
task_of k (commands.Unwatch name) = do Ok (unwatched (← known name (watcher_named k name)))
task_of k (commands.Show name) = do Ok (shown (← space k name))
task_of k (commands.At name addr) = do Ok (found (← space k name) addr)
task_of k (commands.Notified number) = Ok (plain (orders.Notified number))
task_of k (commands.Dirty name client) = do Ok (plain (orders.Harvest (← region k name) client))
task_of k (commands.Pass pass command) = pass_task k command
task_of k commands.Par = Ok idle
task_of k commands.End = Ok idle

-- what the desk knows after an order of its own that makes this name, if any, and was accepted
abbrev pub with_order : Known → Text → DeskOrder → Known
with_order k name (orders.Call (calls.Region kind size)) =
    record k { names = record k.names { regions = k.names.regions ++ name ∷ []; kinds = k.names.kinds ++ kind ∷ [] } }
with_order k name (orders.Call (calls.Space to root)) = record k { names = record k.names { spaces = k.names.spaces ++ name ∷ [] } }
with_order k name (orders.Call (calls.Drop r)) = record k { dropped = k.dropped ++ r ∷ [] }
with_order k name (orders.Listen listener to priority) = record k { names = record k.names { listeners = k.names.listeners ++ name ∷ [] } }
with_order k name (orders.Unlisten listener) = record k { gone = k.gone ++ listener ∷ [] }
with_order k name _ = k

-- the same by the answer: after a refusal it knows no more
abbrev pub after_order : Known → Text → DeskOrder → DeskAnswer → Known
after_order k name order (answers.Refused why) = k
after_order k name order answer = with_order k name order
