-- What each kind of region is. QEMU's manual, "The memory API", "Types of regions".
use Rattle.std.specs.Prelude.{Bool, true, false, Option, Some, None, is_some}
use Rattle.mem_base.specs.declared.map.ids.RegionId.{RegionId}
use Rattle.mem_base.specs.declared.map.kinds.Kind.{Kind}
use Rattle.mem_base.specs.declared.map.kinds.Device.{Device}
use Rattle.mem_base.specs.declared.map.kinds.Kind.TheVariants.{Container, Ram, Rom, RomDevice, Io, Iommu, Alias, Host}

-- a region that only groups its children
abbrev pub is_container : Kind → Bool
is_container Container = true
is_container _ = false

-- a window on another region
abbrev pub is_alias : Kind → Bool
is_alias (Alias target offset) = true
is_alias _ = false

-- memory, whoever keeps its bytes: RAM, ROM, a ROM device, or memory that a program beside the machine keeps
-- (`memory_region_init_ram_ptr` of QEMU's core)
abbrev pub is_memory : Kind → Bool
is_memory Ram = true
is_memory Rom = true
is_memory (RomDevice device) = true
is_memory Host = true
is_memory _ = false

-- memory whose bytes the machine keeps: RAM, ROM or a ROM device
abbrev pub has_bytes : Kind → Bool
has_bytes Ram = true
has_bytes Rom = true
has_bytes (RomDevice device) = true
has_bytes _ = false

-- memory that takes no writes
abbrev pub is_rom : Kind → Bool
is_rom Rom = true
is_rom _ = false

-- memory with a device for its writes
abbrev pub is_rom_device : Kind → Bool
is_rom_device (RomDevice device) = true
is_rom_device _ = false

-- a region that translates
abbrev pub is_iommu : Kind → Bool
is_iommu Iommu = true
is_iommu _ = false

-- the device that a region is reached through, where it has one
abbrev pub device_of : Kind → Option Device
device_of (RomDevice device) = Some device
device_of (Io device) = Some device
device_of _ = None

-- a region whose writes may set a notifier: one that has a device
abbrev pub takes_events : Kind → Bool
takes_events kind = is_some (device_of kind)

-- the target of an alias
abbrev pub target_of : Kind → Option RegionId
target_of (Alias target offset) = Some target
target_of _ = None
