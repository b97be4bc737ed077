-- The other lines of the desk, from their second word on.
use Rattle.std.specs.Prelude.{List, [], ◌∷◌, codes}
use Rattle.mem_base.specs.declared.script.commands.Command.{Command}
use Rattle.mem_base.specs.declared.script.commands.Command.TheVariants as commands
use Rattle.mem_base.specs.script.Spelling.{Text}
use Rattle.mem_base.specs.script.Operands.{◌>>=◌, Form, address, bytes, client, ends, last_priority, memory_size, name, notifier}
use Rattle.mem_base.specs.script.RegionForms.{region}

-- machine SIZE
abbrev pub machine : Form Command
machine = do ends (commands.Machine (← memory_size))

-- space NAME REGION
abbrev pub space : Form Command
space = do ends (commands.Space (← name) (← name))

-- load REGION OFFSET BYTES
abbrev pub load : Form Command
load = do ends (commands.Load (← name) (← address) (← bytes))

-- drop REGION
abbrev pub drop_region : Form Command
drop_region = do ends (commands.Drop (← name))

-- listen NAME SPACE [prio N]
abbrev pub listen : Form Command
listen = do ends (commands.Listen (← name) (← name) (← last_priority))

-- unlisten NAME
abbrev pub unlisten : Form Command
unlisten = do ends (commands.Unlisten (← name))

-- watch NAME REGION FIRST LAST
abbrev pub watch : Form Command
watch = do ends (commands.Watch (← name) (← name) (← address) (← address))

-- unwatch NAME
abbrev pub unwatch : Form Command
unwatch = do ends (commands.Unwatch (← name))

-- show SPACE
abbrev pub show : Form Command
show = do ends (commands.Show (← name))

-- at SPACE ADDR
abbrev pub at : Form Command
at = do ends (commands.At (← name) (← address))

-- notified N
abbrev pub notified : Form Command
notified = do ends (commands.Notified (← notifier))

-- dirty REGION vga|code|migration
abbrev pub dirty : Form Command
dirty = do ends (commands.Dirty (← name) (← client))

-- each first word of such a line, with the form of what follows
abbrev pub desk_forms : List (Text × Form Command)
desk_forms =
    (codes "machine", machine) ∷ (codes "region", region) ∷ (codes "space", space) ∷ (codes "load", load)
    ∷ (codes "drop", drop_region) ∷ (codes "begin", ends commands.Begin) ∷ (codes "commit", ends commands.Commit)
    ∷ (codes "reap", ends commands.Reap) ∷ (codes "listen", listen) ∷ (codes "unlisten", unlisten)
    ∷ (codes "watch", watch) ∷ (codes "unwatch", unwatch) ∷ (codes "show", show) ∷ (codes "at", at)
    ∷ (codes "notified", notified) ∷ (codes "dirty", dirty) ∷ (codes "par", ends commands.Par)
    ∷ (codes "end", ends commands.End) ∷ []
