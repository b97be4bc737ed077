-- The regions that are read as memory: the devices that a line with the comment ` # memory` made.
use Rattle.std.specs.Prelude.{ℕ, ◌+◌, ◌==◌, ◌&&◌, not, Bool, true, false, if◌then◌else◌, List, [], ◌∷◌, ◌++◌}
use Rattle.std.specs.List.{list_any}
use Rattle.mem_base.specs.declared.map.ids.RegionId.{RegionId}
use Rattle.mem_base.specs.declared.script.commands.Command.{Command}
use Rattle.mem_base.specs.declared.script.commands.Command.TheVariants.{Region}
use Rattle.mem_base.specs.declared.script.commands.RegionKind.TheVariants as region_kinds
use Rattle.mem_base.specs.script.Scripts.{Line}
use Rattle.mem_base.specs.script.Spelling.{Text}
use Rattle.script_map.specs.Refusals.{Refused}
use Rattle.script_memory.specs.Comments.{is_commented_at, lines_commented}

-- the command asks for a region
abbrev pub asks_region : Command → Bool
asks_region (Region name size kind) = true
asks_region _ = false

-- for a device
abbrev pub asks_device : Command → Bool
asks_device (Region name size (region_kinds.Io device)) = true
asks_device _ = false

-- the command of this line was refused
abbrev pub is_refused_at : List Refused → ℕ → Bool
is_refused_at refused number = list_any (λ r. r.line == number) refused

-- the command of a line made a region: it asks for one, and was not refused
abbrev pub makes_region : List Refused → Line → Bool
makes_region refused line = asks_region line.1 && not (is_refused_at refused line.0)

-- the region with this number, where the line that made it makes a device and has the comment
abbrev pub device_by : List Bool → ℕ → Line → List RegionId
device_by commented n line = if asks_device line.1 && is_commented_at commented line.0 then record { 0 = n } ∷ [] else []

-- those that some lines make; regions are numbered in order of making, here from `n` on
abbrev pub memory_from : List Bool → List Refused → ℕ → List Line → List RegionId
memory_from commented refused n [] = []
memory_from commented refused n (line ∷ lines) =
    if makes_region refused line then device_by commented n line ++ memory_from commented refused (n + 1) lines
    else memory_from commented refused n lines

-- those of a script, by its text, its commands, and those that were refused
abbrev pub memory_of : Text → List Refused → List Line → List RegionId
memory_of text refused lines = memory_from (lines_commented text) refused 0 lines
