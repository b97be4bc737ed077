-- How a script is printed: single spaces, no comment, no blank line, and what is a default left out.
use Rattle.std.specs.Prelude.{ℕ, zero, ◌+◌, ◌/◌, ◌%◌, ◌==◌, ◌&&◌, Bool, true, false, if◌then◌else◌, List, [], ◌∷◌, ◌++◌, Option, Some, None}
use Rattle.std.specs.Prelude.{codes, decimal, ℤ, pos}
use Rattle.std.specs.Fmt.{digits, digit_glyph, signed_decimal}
use Rattle.mem_base.specs.map.PassIds.{PassId}
use Rattle.mem_base.specs.declared.map.kinds.Client.{Client}
use Rattle.mem_base.specs.declared.map.kinds.Client.TheVariants.{Vga, Code, Migration}
use Rattle.mem_base.specs.declared.map.kinds.Device.{Device}
use Rattle.mem_base.specs.declared.map.kinds.DeviceKind.{DeviceKind}
use Rattle.mem_base.specs.declared.map.kinds.DeviceKind.TheVariants.{Latch, Count, Bell, Fault}
use Rattle.mem_base.specs.declared.map.translations.Perm.{Perm}
use Rattle.mem_base.specs.declared.map.translations.Perm.TheVariants.{Nothing, Read, Write, Both}
use Rattle.mem_base.specs.declared.script.changes.MapChange.{MapChange}
use Rattle.mem_base.specs.declared.script.changes.MapChange.TheVariants as changes
use Rattle.mem_base.specs.declared.script.commands.Command.{Command}
use Rattle.mem_base.specs.declared.script.commands.Command.TheVariants as commands
use Rattle.mem_base.specs.declared.script.commands.PassCommand.{PassCommand}
use Rattle.mem_base.specs.declared.script.commands.PassCommand.TheVariants as pass_commands
use Rattle.mem_base.specs.declared.script.commands.RegionKind.{RegionKind}
use Rattle.mem_base.specs.declared.script.commands.RegionKind.TheVariants as region_kinds
use Rattle.mem_base.specs.script.Spelling.{Text}
use Rattle.mem_base.specs.script.Scripts.{Line}

-- Operands

-- `0x` and lower-case digits without leading zeros
abbrev pub number_text : ℕ → Text
number_text n = codes "0x" ++ digits 16 false n

-- on|off
abbrev pub switch_text : Bool → Text
switch_text true = codes "on"
switch_text false = codes "off"

-- vga|code|migration
abbrev pub client_text : Client → Text
client_text Vga = codes "vga"
client_text Code = codes "code"
client_text Migration = codes "migration"

-- none|r|w|rw
abbrev pub perm_text : Perm → Text
perm_text Nothing = codes "none"
perm_text Read = codes "r"
perm_text Write = codes "w"
perm_text Both = codes "rw"

-- latch|count|bell|fault
abbrev pub device_kind_text : DeviceKind → Text
device_kind_text Latch = codes "latch"
device_kind_text Count = codes "count"
device_kind_text Bell = codes "bell"
device_kind_text Fault = codes "fault"

-- two lower-case digits a byte
abbrev pub bytes_text : List ℕ → Text
bytes_text [] = []
bytes_text (b ∷ bs) = digit_glyph false (b / 16) ∷ digit_glyph false (b % 16) ∷ bytes_text bs

-- vN
abbrev pub pass_text : PassId → Text
pass_text pass = codes "v" ++ decimal pass.0

-- `A-B`
abbrev pub range_text : ℕ × ℕ → Text
range_text r = decimal r.0 ++ 45 ∷ decimal r.1

-- Options: nothing is written for a default

-- [prio N]
abbrev pub prio_tokens : ℤ → List Text
prio_tokens (pos zero) = []
prio_tokens n = codes "prio" ∷ signed_decimal n ∷ []

-- [data VALUE]
abbrev pub data_tokens : Option ℕ → List Text
data_tokens None = []
data_tokens (Some value) = codes "data" ∷ number_text value ∷ []

-- [regs REGS]
abbrev pub regs_tokens : ℕ → List Text
regs_tokens regs = if regs == 1 then [] else codes "regs" ∷ decimal regs ∷ []

-- [valid A-B] or [impl A-B]
abbrev pub range_tokens : Text → ℕ × ℕ → List Text
range_tokens keyword r = if (r.0 == 1) && (r.1 == 4) then [] else keyword ∷ range_text r ∷ []

-- a word, where the flag is on
abbrev pub flag_tokens : Text → Bool → List Text
flag_tokens keyword on = if on then keyword ∷ [] else []

-- DEVICE
abbrev pub device_tokens : Device → List Text
device_tokens d =
    device_kind_text d.kind ∷ (regs_tokens d.regs ++ (range_tokens (codes "valid") (d.ops.valid_min, d.ops.valid_max)
    ++ (range_tokens (codes "impl") (d.ops.impl_min, d.ops.impl_max) ++ (flag_tokens (codes "vunaligned") d.ops.valid_unaligned
    ++ (flag_tokens (codes "iunaligned") d.ops.impl_unaligned ++ flag_tokens (codes "big") d.ops.big)))))

-- Lines

-- the tokens of a line that changes the map
abbrev pub change_tokens : MapChange → List Text
change_tokens (changes.Add parent offset child priority) = codes "add" ∷ parent ∷ number_text offset ∷ child ∷ prio_tokens priority
change_tokens (changes.Del parent child) = codes "del" ∷ parent ∷ child ∷ []
change_tokens (changes.Move child offset) = codes "move" ∷ child ∷ number_text offset ∷ []
change_tokens (changes.Resize region size) = codes "resize" ∷ region ∷ number_text size ∷ []
change_tokens (changes.Retarget alias offset) = codes "retarget" ∷ alias ∷ number_text offset ∷ []
change_tokens (changes.Enable region) = codes "enable" ∷ region ∷ []
change_tokens (changes.Disable region) = codes "disable" ∷ region ∷ []
change_tokens (changes.Readonly region on) = codes "readonly" ∷ region ∷ switch_text on ∷ []
change_tokens (changes.Nonvolatile region on) = codes "nonvolatile" ∷ region ∷ switch_text on ∷ []
change_tokens (changes.Unmergeable region on) = codes "unmergeable" ∷ region ∷ switch_text on ∷ []
change_tokens (changes.Romd region on) = codes "romd" ∷ region ∷ switch_text on ∷ []
change_tokens (changes.Log region client on) = codes "log" ∷ region ∷ client_text client ∷ switch_text on ∷ []
change_tokens (changes.Global on) = codes "global" ∷ switch_text on ∷ []
change_tokens (changes.Map region iova size space translated perm) =
    codes "map" ∷ region ∷ number_text iova ∷ number_text size ∷ space ∷ number_text translated ∷ perm_text perm ∷ []
change_tokens (changes.Unmap region iova) = codes "unmap" ∷ region ∷ number_text iova ∷ []
change_tokens (changes.Event region offset size number value) =
    codes "event" ∷ region ∷ number_text offset ∷ decimal size ∷ decimal number ∷ data_tokens value
change_tokens (changes.Unevent region offset size value) =
    codes "unevent" ∷ region ∷ number_text offset ∷ decimal size ∷ data_tokens value

-- container|ram|rom|romdev|io|iommu|alias|reserve
abbrev pub kind_text : RegionKind → Text
kind_text region_kinds.Container = codes "container"
kind_text region_kinds.Ram = codes "ram"
kind_text region_kinds.Rom = codes "rom"
kind_text (region_kinds.RomDevice device) = codes "romdev"
kind_text (region_kinds.Io device) = codes "io"
kind_text region_kinds.Iommu = codes "iommu"
kind_text (region_kinds.Alias target offset) = codes "alias"
kind_text region_kinds.Reserve = codes "reserve"

-- what a kind takes after the size
abbrev pub kind_tokens : RegionKind → List Text
kind_tokens (region_kinds.RomDevice device) = device_tokens device
kind_tokens (region_kinds.Io device) = device_tokens device
kind_tokens (region_kinds.Alias target offset) = target ∷ number_text offset ∷ []
kind_tokens _ = []

-- the tokens of what a pass does
abbrev pub pass_tokens : PassCommand → List Text
pass_tokens pass_commands.Enter = codes "enter" ∷ []
pass_tokens pass_commands.Leave = codes "leave" ∷ []
pass_tokens (pass_commands.Read space addr len) = codes "read" ∷ space ∷ number_text addr ∷ decimal len ∷ []
pass_tokens (pass_commands.Write space addr bytes) = codes "write" ∷ space ∷ number_text addr ∷ bytes_text bytes ∷ []
pass_tokens (pass_commands.Do change) = codes "do" ∷ change_tokens change
pass_tokens (pass_commands.Dma space addr len to_space to_addr) =
    codes "dma" ∷ space ∷ number_text addr ∷ decimal len ∷ codes "to" ∷ to_space ∷ number_text to_addr ∷ []

-- the tokens of a command
abbrev pub command_tokens : Command → List Text
command_tokens (commands.Machine size) = codes "machine" ∷ number_text size ∷ []
command_tokens (commands.Region name size kind) = codes "region" ∷ name ∷ kind_text kind ∷ number_text size ∷ kind_tokens kind
command_tokens (commands.Space name root) = codes "space" ∷ name ∷ root ∷ []
command_tokens (commands.Change change) = change_tokens change
command_tokens (commands.Load region offset bytes) = codes "load" ∷ region ∷ number_text offset ∷ bytes_text bytes ∷ []
command_tokens (commands.Drop region) = codes "drop" ∷ region ∷ []
command_tokens commands.Begin = codes "begin" ∷ []
command_tokens commands.Commit = codes "commit" ∷ []
command_tokens commands.Reap = codes "reap" ∷ []
command_tokens (commands.Listen name space priority) = codes "listen" ∷ name ∷ space ∷ prio_tokens priority
command_tokens (commands.Unlisten name) = codes "unlisten" ∷ name ∷ []
command_tokens (commands.Watch name region first last) =
    codes "watch" ∷ name ∷ region ∷ number_text first ∷ number_text last ∷ []
command_tokens (commands.Unwatch name) = codes "unwatch" ∷ name ∷ []
command_tokens (commands.Show space) = codes "show" ∷ space ∷ []
command_tokens (commands.At space addr) = codes "at" ∷ space ∷ number_text addr ∷ []
command_tokens (commands.Notified number) = codes "notified" ∷ decimal number ∷ []
command_tokens (commands.Dirty region client) = codes "dirty" ∷ region ∷ client_text client ∷ []
command_tokens (commands.Pass pass command) = pass_text pass ∷ pass_tokens command
command_tokens commands.Par = codes "par" ∷ []
command_tokens commands.End = codes "end" ∷ []

-- tokens, separated by single spaces
abbrev pub spaced : List Text → Text
spaced [] = []
spaced (token ∷ []) = token
spaced (token ∷ next ∷ tokens) = token ++ 32 ∷ spaced (next ∷ tokens)

-- the text of a script
abbrev pub printed : List Line → Text
printed [] = []
printed (line ∷ lines) = spaced (command_tokens line.1) ++ 10 ∷ printed lines

-- the same commands, on lines that are counted from this number on
abbrev pub numbered : ℕ → List Line → List Line
numbered n [] = []
numbered n (line ∷ lines) = (n, line.1) ∷ numbered (n + 1) lines

-- a list of commands as a script, one command a line, counted from this number on
abbrev pub numbered_commands : ℕ → List Command → List Line
numbered_commands n [] = []
numbered_commands n (command ∷ commands) = (n, command) ∷ numbered_commands (n + 1) commands
