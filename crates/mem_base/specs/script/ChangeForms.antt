-- The lines that change the map, from their second word on. `do ends (X (← name) (← address))` reads a name, then an
-- address, then nothing more.
use Rattle.std.specs.Prelude.{List, [], ◌∷◌, codes}
use Rattle.mem_base.specs.declared.script.changes.MapChange.{MapChange}
use Rattle.mem_base.specs.declared.script.changes.MapChange.TheVariants as changes
use Rattle.mem_base.specs.script.Spelling.{Text}
use Rattle.mem_base.specs.script.Operands.{◌>>=◌, Form, address, client, decimal_number, ends, last_data, last_priority, name, notifier}
use Rattle.mem_base.specs.script.Operands.{one_of, perm, size, switch}

-- add REGION OFFSET REGION [prio N]
abbrev pub add : Form MapChange
add = do ends (changes.Add (← name) (← address) (← name) (← last_priority))

-- del REGION REGION
abbrev pub del : Form MapChange
del = do ends (changes.Del (← name) (← name))

-- move REGION OFFSET
abbrev pub move : Form MapChange
move = do ends (changes.Move (← name) (← address))

-- resize REGION SIZE
abbrev pub resize : Form MapChange
resize = do ends (changes.Resize (← name) (← size))

-- retarget REGION OFFSET
abbrev pub retarget : Form MapChange
retarget = do ends (changes.Retarget (← name) (← address))

-- enable REGION
abbrev pub enable : Form MapChange
enable = do ends (changes.Enable (← name))

-- disable REGION
abbrev pub disable : Form MapChange
disable = do ends (changes.Disable (← name))

-- readonly REGION on|off
abbrev pub readonly : Form MapChange
readonly = do ends (changes.Readonly (← name) (← switch))

-- nonvolatile REGION on|off
abbrev pub nonvolatile : Form MapChange
nonvolatile = do ends (changes.Nonvolatile (← name) (← switch))

-- unmergeable REGION on|off
abbrev pub unmergeable : Form MapChange
unmergeable = do ends (changes.Unmergeable (← name) (← switch))

-- romd REGION on|off
abbrev pub romd : Form MapChange
romd = do ends (changes.Romd (← name) (← switch))

-- log REGION vga|code|migration on|off
abbrev pub log : Form MapChange
log = do ends (changes.Log (← name) (← client) (← switch))

-- global on|off
abbrev pub global : Form MapChange
global = do ends (changes.Global (← switch))

-- map REGION IOVA SIZE SPACE ADDR none|r|w|rw
abbrev pub map_page : Form MapChange
map_page = do ends (changes.Map (← name) (← address) (← size) (← name) (← address) (← perm))

-- unmap REGION IOVA
abbrev pub unmap : Form MapChange
unmap = do ends (changes.Unmap (← name) (← address))

-- event REGION OFFSET SIZE N [data VALUE]
abbrev pub event : Form MapChange
event = do ends (changes.Event (← name) (← address) (← decimal_number 255) (← notifier) (← last_data))

-- unevent REGION OFFSET SIZE [data VALUE]
abbrev pub unevent : Form MapChange
unevent = do ends (changes.Unevent (← name) (← address) (← decimal_number 255) (← last_data))

-- each first word of such a line, with the form of what follows
abbrev pub change_forms : List (Text × Form MapChange)
change_forms =
    (codes "add", add) ∷ (codes "del", del) ∷ (codes "move", move) ∷ (codes "resize", resize)
    ∷ (codes "retarget", retarget) ∷ (codes "enable", enable) ∷ (codes "disable", disable)
    ∷ (codes "readonly", readonly) ∷ (codes "nonvolatile", nonvolatile) ∷ (codes "unmergeable", unmergeable)
    ∷ (codes "romd", romd) ∷ (codes "log", log) ∷ (codes "global", global) ∷ (codes "map", map_page)
    ∷ (codes "unmap", unmap) ∷ (codes "event", event) ∷ (codes "unevent", unevent) ∷ []

-- a change from its first word on
abbrev pub change : Form MapChange
change = do
  form ← one_of change_forms
  form
