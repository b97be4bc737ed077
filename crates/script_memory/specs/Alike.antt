-- That a map shows the same whether regions that are read as memory are devices or memory.
use Rattle.std.specs.Prelude.{◌≡◌, ◌==◌, true, false, List, map}
use Rattle.std.specs.List.{list_any}
use Rattle.mem_base.specs.declared.map.ids.RegionId.{RegionId}
use Rattle.mem_base.specs.declared.map.ids.SpaceId.{SpaceId}
use Rattle.mem_base.specs.declared.map.forests.Forest.{Forest}
use Rattle.mem_base.specs.declared.map.forests.Node.{Node}
use Rattle.mem_base.specs.declared.map.kinds.Device.{Device}
use Rattle.mem_base.specs.declared.map.kinds.Kind.TheVariants.{Io}
use Rattle.mem_base.specs.lists.Every.{Every}
use Rattle.mem_base.specs.views.Flattened.{view_of}
use Rattle.script_memory.specs.Told.{told_kind}

-- a region, which is memory where it is among these
abbrev pub memory_node : List RegionId → Node → Node
memory_node memory n = record n { kind = told_kind memory n.id.0 n.kind }

-- a forest in which these regions are memory
abbrev pub memory_forest : List RegionId → Forest → Forest
memory_forest memory f = record f { nodes = map (memory_node memory) f.nodes }

-- a region is a device, where it is among these
abbrev pub IsDeviceAmong : List RegionId → Node → Type 0
IsDeviceAmong memory n = list_any (λ r. r.0 == n.id.0) memory ≡ true → (device : Device) × (n.kind ≡ Io device)

-- where these regions are devices and global logging is off, each space shows the same as if they were memory
abbrev pub ShowsTheSame : Type 0
ShowsTheSame =
    (memory : List RegionId) (f : Forest) (s : SpaceId) → Every (IsDeviceAmong memory) f.nodes → f.global ≡ false
    → view_of (memory_forest memory f) s ≡ view_of f s
