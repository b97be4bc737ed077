-- What a script means: the lines that it writes. Each command is its composite in the machine that the commands before it
-- left, a call of the writer or the steps of a pass. A command that names something which is not there writes a refusal.
use Rattle.std.specs.Prelude.{if◌then◌else◌, ℕ, ◌+◌, ◌/◌, Bool, true, false, List, [], ◌∷◌, ◌++◌}
use Rattle.mem_base.specs.map.PassIds.{PassId}
use Rattle.mem_base.specs.declared.map.kinds.Kind.{Kind}
use Rattle.mem_base.specs.declared.map.kinds.Kind.TheVariants as kinds
use Rattle.mem_base.specs.declared.map.calls.Call.TheVariants as calls
use Rattle.mem_base.specs.declared.map.calls.Config.TheVariants as configs
use Rattle.mem_base.specs.declared.script.commands.Command.{Command}
use Rattle.mem_base.specs.declared.script.commands.Command.TheVariants as commands
use Rattle.mem_base.specs.declared.script.commands.PassCommand.{PassCommand}
use Rattle.mem_base.specs.declared.script.commands.PassCommand.TheVariants as pass_commands
use Rattle.mem_base.specs.declared.script.commands.RegionKind.{RegionKind}
use Rattle.mem_base.specs.declared.script.commands.RegionKind.TheVariants as region_kinds
use Rattle.mem_base.specs.map.Limits.{most_passes, word_size}
use Rattle.mem_base.specs.machine.World.{opening}
use Rattle.mem_base.specs.machine.Orders.{configure, reap, load, harvest, notified}
use Rattle.mem_base.specs.script.Spelling.{Text}
use Rattle.mem_base.specs.script.Scripts.{Line}
use Rattle.mem_base.specs.script.Named.{no_names}
use Rattle.mem_base.specs.script.States.{Outcome, listener_named, watcher_named, writes, where_known, with_region, with_space, State}
use Rattle.mem_base.specs.script.WriterSteps.{ordered, does, calls_map, make_region, make_space, listen, with_call, released_in, pages_in}
use Rattle.mem_base.specs.script.WriterSteps.{value_in, published_in}
use Rattle.mem_base.specs.script.Shows.{show, at, watch, unwatch, catches_up}
use Rattle.mem_base.specs.script.PassSteps.{enter, leave, read, write, copy}

-- Commands

-- the rest of a command that makes a region, with its kind: the target of an alias has a name
abbrev pub with_kind : State → ℕ → RegionKind → (Kind → Outcome) → Outcome
with_kind state line region_kinds.Container rest = rest kinds.Container
with_kind state line region_kinds.Ram rest = rest kinds.Ram
with_kind state line region_kinds.Rom rest = rest kinds.Rom
with_kind state line (region_kinds.RomDevice device) rest = rest (kinds.RomDevice device)
with_kind state line (region_kinds.Io device) rest = rest (kinds.Io device)
with_kind state line region_kinds.Iommu rest = rest kinds.Iommu
with_kind state line (region_kinds.Alias target offset) rest = with_region state line target (λ t. rest (kinds.Alias t offset))
with_kind state line region_kinds.Reserve rest = rest kinds.Reserve

-- what a pass does and writes
abbrev pub pass_step : State → ℕ → PassId → PassCommand → Outcome
pass_step state line pass pass_commands.Enter = enter state pass
pass_step state line pass pass_commands.Leave = leave state pass
pass_step state line pass (pass_commands.Read space addr len) = with_space state line space (λ s. read state pass s addr len)
pass_step state line pass (pass_commands.Write space addr bytes) = with_space state line space (λ s. write state pass s addr bytes)
pass_step state line pass (pass_commands.Do change) = with_call state line change
    (λ call. ordered state line state.names (configure (configs.Call call)) (published_in pass))
pass_step state line pass (pass_commands.Dma space addr len to_space to_addr) =
    with_space state line space (λ s. with_space state line to_space (λ t. copy state pass s addr len t to_addr))

-- what a command does and writes itself: names are resolved from left to right, and then a new name is tried
abbrev pub own_step : State → ℕ → Command → Outcome
own_step state line (commands.Machine size) = writes state []
own_step state line (commands.Region name size kind) = with_kind state line kind (λ k. make_region state line name k size)
own_step state line (commands.Space name root) = with_region state line root (λ r. make_space state line name r)
own_step state line (commands.Change change) = with_call state line change (λ call. calls_map state line call)
own_step state line (commands.Load region offset bytes) = with_region state line region (λ r. does state line (load r offset bytes))
own_step state line (commands.Drop region) = with_region state line region (λ r. calls_map state line (calls.Drop r))
own_step state line commands.Begin = does state line (configure configs.Begin)
own_step state line commands.Commit = does state line (configure configs.Commit)
own_step state line commands.Reap = ordered state line state.names reap (released_in state.names)
own_step state line (commands.Listen name space priority) = with_space state line space (λ s. listen state line name s priority)
own_step state line (commands.Unlisten name) =
    where_known state line name (listener_named state name) (λ l. does state line (configure (configs.Unlisten l)))
own_step state line (commands.Watch name region first last) = with_region state line region (λ r. watch state line name r first last)
own_step state line (commands.Unwatch name) = where_known state line name (watcher_named state name) (λ id. unwatch state id)
own_step state line (commands.Show space) = with_space state line space (λ s. show state space s)
own_step state line (commands.At space addr) = with_space state line space (λ s. at state space addr s)
own_step state line (commands.Notified number) = ordered state line state.names (notified number) (value_in number)
own_step state line (commands.Dirty region client) =
    with_region state line region (λ r. ordered state line state.names (harvest r client) (pages_in region client))
own_step state line (commands.Pass pass command) = pass_step state line pass command
own_step state line commands.Par = writes state []
own_step state line commands.End = writes state []

-- a command of the desk, and not of a pass; `par` and `end` are neither, and do nothing in a run
abbrev pub is_desk_line : Command → Bool
is_desk_line (commands.Pass pass command) = false
is_desk_line commands.Par = false
is_desk_line commands.End = false
is_desk_line _ = true

-- after each of the desk's commands, refused ones too, the watchers catch up
abbrev pub step : State → ℕ → Command → Outcome
step state line command = if is_desk_line command then catches_up (own_step state line command) else own_step state line command

-- Scripts

-- the words of the pool where no `machine` stands: 16 MiB
abbrev pub default_words : ℕ
default_words = 2097152

-- the words of the pool that a command asks for
abbrev pub words_named : Command → ℕ
words_named (commands.Machine size) = size / word_size
words_named _ = default_words

-- the words of the pool, by the first command: an eighth of what `machine` names, which can only be the first
abbrev pub pool_words : List Line → ℕ
pool_words [] = default_words
pool_words (line ∷ lines) = words_named line.1

-- before the first command; there is a pass for each of 16 virtual CPUs
abbrev pub start : ℕ → State
start pool = record { names = no_names; world = opening pool most_passes; watchers = [] }

-- the text of commands one after another
abbrev pub text_from : State → List Line → Text
text_from state [] = []
text_from state (line ∷ lines) =
    let x = step state line.0 line.1 in x.0 ++ text_from x.1 lines

-- the text of a script
abbrev pub text_of : List Line → Text
text_of lines = text_from (start (pool_words lines)) lines
