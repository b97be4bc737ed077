-- What stands while a script runs, what its names stand for there, and what a command writes and leaves. A command that
-- names something which is not there writes a refusal. This project's own rules.
use Rattle.std.specs.Prelude.{if◌then◌else◌, ℕ, ◌+◌, ◌&&◌, Bool, true, is_some, List, [], ◌∷◌, ◌++◌, length, drop, Option, Some, None, option_map}
use Rattle.std.specs.Str.{bytes_eq}
use Rattle.std.specs.List.{list_any}
use Rattle.mem_base.specs.declared.map.ids.RegionId.{RegionId}
use Rattle.mem_base.specs.declared.map.ids.SpaceId.{SpaceId}
use Rattle.mem_base.specs.declared.map.ids.ListenerId.{ListenerId}
use Rattle.mem_base.specs.declared.map.ids.WatcherId.{WatcherId}
use Rattle.mem_base.specs.map.Region.{node_of}
use Rattle.mem_base.specs.views.Listening.{Delivery, listens}
use Rattle.mem_base.specs.machine.World.{World}
use Rattle.mem_base.specs.script.Spelling.{Text}
use Rattle.mem_base.specs.script.Watching.{Watcher, is_watcher}
use Rattle.mem_base.specs.script.Named.{Names}
use Rattle.mem_base.specs.script.RefusalLines.{refused_line, unknown_text, taken_text}
use Rattle.mem_base.specs.script.Output.{told_lines}

-- the machine and the watchers of IOMMU tables as the commands so far left them, and the names that they made
pub record State : Type 0 where
  pub names : Names
  pub world : World
  pub watchers : List Watcher  -- in order of joining

-- what a command writes, and what it leaves
abbrev pub Outcome : Type 0
Outcome = Text × State

-- Names

-- the first number, counted from `n`, that has this name and passes the test
abbrev pub number_from : ℕ → List Text → (ℕ → Bool) → Text → Option ℕ
number_from n [] test name = None
number_from n (other ∷ names) test name = if bytes_eq other name && test n then Some n else number_from (n + 1) names test name

-- the region is there: it was not dropped
abbrev pub has_region : State → ℕ → Bool
has_region state n = is_some (node_of state.world.writer.desk.forest.nodes (record { 0 = n }))

-- the listener is there: it has not left
abbrev pub has_listener : State → ℕ → Bool
has_listener state n = listens state.world.writer.desk.listening (record { 0 = n })

-- what a name stands for: of all that had it, the one that is there
abbrev pub region_named : State → Text → Option RegionId
region_named state name = option_map (λ n. record { 0 = n }) (number_from 0 state.names.regions (has_region state) name)

-- the space that a name stands for
abbrev pub space_named : State → Text → Option SpaceId
space_named state name = option_map (λ n. record { 0 = n }) (number_from 0 state.names.spaces (λ n. true) name)

-- the listener that a name stands for: of all that had it, the one that is there
abbrev pub listener_named : State → Text → Option ListenerId
listener_named state name = option_map (λ n. record { 0 = n }) (number_from 0 state.names.listeners (has_listener state) name)

-- the watcher that a name stands for: of all that had it, the one that is there
abbrev pub watcher_named : State → Text → Option WatcherId
watcher_named state name = option_map (λ n. record { 0 = n }) (number_from 0 state.names.notifiers (λ n. list_any (is_watcher n) state.watchers) name)

-- What a command leaves

-- the calls that listeners got from one world to a later one
abbrev pub heard : World → World → List Delivery
heard old new = drop (length old.writer.desk.listening.journal) new.writer.desk.listening.journal

-- a command that leaves these names and this world: its own lines, and then the calls that listeners got by it
abbrev pub outcome : State → Names → World → Text → Outcome
outcome state names world text =
    (text ++ told_lines names (heard state.world world), record state { names = names; world = world })

-- a command that changes nothing
abbrev pub writes : State → Text → Outcome
writes state text = (text, state)

-- the rest of a command, with what a name stands for; a name that stands for nothing is refused
abbrev pub where_known : {I : Type 0} → State → ℕ → Text → Option I → (I → Outcome) → Outcome
where_known state line name None rest = writes state (refused_line line (unknown_text name))
where_known state line name (Some id) rest = rest id

-- the rest of a command, with the region that a name stands for
abbrev pub with_region : State → ℕ → Text → (RegionId → Outcome) → Outcome
with_region state line name rest = where_known state line name (region_named state name) rest

-- the rest of a command, with the space that a name stands for
abbrev pub with_space : State → ℕ → Text → (SpaceId → Outcome) → Outcome
with_space state line name rest = where_known state line name (space_named state name) rest

-- the rest of a command that makes a name; one that stands for something is refused
abbrev pub where_new : {I : Type 0} → State → ℕ → Text → Option I → Outcome → Outcome
where_new state line name there rest = if is_some there then writes state (refused_line line (taken_text name)) else rest
