-- The names that a command makes and asks for. Regions, spaces, listeners and watchers have separate names.
use Rattle.std.specs.Prelude.{Bool, true, false, Option, Some, None}
use Rattle.mem_base.specs.declared.script.changes.MapChange.{MapChange}
use Rattle.mem_base.specs.declared.script.changes.MapChange.TheVariants as changes
use Rattle.mem_base.specs.declared.script.commands.Command.{Command}
use Rattle.mem_base.specs.declared.script.commands.Command.TheVariants as commands
use Rattle.mem_base.specs.declared.script.commands.PassCommand.TheVariants as pass_commands
use Rattle.mem_base.specs.script.Spelling.{Text}
use Rattle.script_lint.specs.declared.names.Sort.{Sort}
use Rattle.script_lint.specs.declared.names.Sort.TheVariants as sorts

-- the name that a command makes, if it makes one
abbrev pub made_name : Command → Option Text
made_name (commands.Region name size kind) = Some name
made_name (commands.Space name root) = Some name
made_name (commands.Listen name space priority) = Some name
made_name (commands.Watch name region first last) = Some name
made_name _ = None

-- and whose name it is: a region's, but of three commands
abbrev pub made_sort : Command → Sort
made_sort (commands.Space name root) = sorts.Space
made_sort (commands.Listen name space priority) = sorts.Listener
made_sort (commands.Watch name region first last) = sorts.Watcher
made_sort _ = sorts.Region

abbrev pub is_region : Sort → Bool
is_region sorts.Region = true
is_region _ = false

abbrev pub is_space : Sort → Bool
is_space sorts.Space = true
is_space _ = false

abbrev pub is_listener : Sort → Bool
is_listener sorts.Listener = true
is_listener _ = false

abbrev pub is_watcher : Sort → Bool
is_watcher sorts.Watcher = true
is_watcher _ = false

-- a change of the map asks for regions; a translation leads to a space too
abbrev pub change_asks : MapChange → Sort → Bool
change_asks (changes.Map region iova size space translated perm) sorts.Space = true
change_asks change sort = is_region sort

-- a command asks for names of this sort, which stand for something already
abbrev pub asks : Command → Sort → Bool
asks (commands.Listen name space priority) sort = is_space sort
asks (commands.Show space) sort = is_space sort
asks (commands.At space addr) sort = is_space sort
asks (commands.Pass pass (pass_commands.Read space addr len)) sort = is_space sort
asks (commands.Pass pass (pass_commands.Write space addr bytes)) sort = is_space sort
asks (commands.Pass pass (pass_commands.Dma space addr len to_space to_addr)) sort = is_space sort
asks (commands.Unlisten name) sort = is_listener sort
asks (commands.Unwatch name) sort = is_watcher sort
asks (commands.Change change) sort = change_asks change sort
asks (commands.Pass pass (pass_commands.Do change)) sort = change_asks change sort
asks _ sort = is_region sort
