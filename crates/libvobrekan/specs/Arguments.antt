-- What the numbers that C hands over stand for; a number that stands for nothing is refused.
use Rattle.std.specs.Prelude.{ℕ, ◌==◌, ◌-◌, ◌^◌, if◌then◌else◌, Option, Some, None, option_map}
use Rattle.mem_base.specs.declared.map.ids.ListenerId.{ListenerId}
use Rattle.mem_base.specs.map.PassIds.{PassId}
use Rattle.mem_base.specs.declared.map.ids.RegionId.{RegionId}
use Rattle.mem_base.specs.declared.map.ids.SpaceId.{SpaceId}
use Rattle.mem_base.specs.declared.map.ioevents.Ioevent.{Ioevent}
use Rattle.mem_base.specs.declared.map.kinds.Client.{Client}
use Rattle.mem_base.specs.declared.map.kinds.Client.TheVariants.{Vga, Code, Migration}
use Rattle.mem_base.specs.declared.map.kinds.Device.{Device}
use Rattle.mem_base.specs.declared.map.kinds.DeviceKind.{DeviceKind}
use Rattle.mem_base.specs.declared.map.kinds.DeviceKind.TheVariants.{Latch, Count, Bell, Fault}
use Rattle.mem_base.specs.declared.map.translations.Perm.{Perm}
use Rattle.mem_base.specs.declared.map.translations.Perm.TheVariants.{Nothing, Read, Write, Both}
use Rattle.libvobrekan.specs.declared.arguments.DeviceNumbers.{DeviceNumbers}
use Rattle.libvobrekan.specs.declared.arguments.EventNumbers.{EventNumbers}

-- Ids, by their numbers

abbrev pub region_at : ℕ → RegionId
region_at number = record { 0 = number }

abbrev pub space_at : ℕ → SpaceId
space_at number = record { 0 = number }

abbrev pub listener_at : ℕ → ListenerId
listener_at number = record { 0 = number }

abbrev pub pass_at : ℕ → PassId
pass_at number = record { 0 = number }

-- an ioeventfd, by its numbers
abbrev pub event_of : EventNumbers → Ioevent
event_of e = record { offset = e.offset; size = e.size; matched = e.matched; value = e.value; number = e.number }

-- a size: 2^64 - 1 stands for 2^64, as in `memory_region_init` of QEMU's core
abbrev pub size_of : ℕ → ℕ
size_of bytes = if bytes == 2 ^ 64 - 1 then 2 ^ 64 else bytes

-- the bits of a logging mask, by their places
abbrev pub client_of : ℕ → Option Client
client_of number = if number == 0 then Some Vga else (if number == 1 then Some Code else (if number == 2 then Some Migration else None))

-- 1 lets reads through, 2 writes, 3 both
abbrev pub perm_of : ℕ → Option Perm
perm_of number =
    if number == 0 then Some Nothing else
    (if number == 1 then Some Read else (if number == 2 then Some Write else (if number == 3 then Some Both else None)))

abbrev pub device_kind_of : ℕ → Option DeviceKind
device_kind_of number =
    if number == 0 then Some Latch else
    (if number == 1 then Some Count else (if number == 2 then Some Bell else (if number == 3 then Some Fault else None)))

-- a device of a kind, with these numbers
abbrev pub device_with : DeviceNumbers → DeviceKind → Device
device_with numbers kind = record {
  kind = kind;
  regs = numbers.regs;
  ops = record {
    valid_min = numbers.valid_min;
    valid_max = numbers.valid_max;
    valid_unaligned = numbers.valid_unaligned;
    impl_min = numbers.impl_min;
    impl_max = numbers.impl_max;
    impl_unaligned = numbers.impl_unaligned;
    big = numbers.big;
  };
}

-- a device, where its kind is one
abbrev pub device_of : DeviceNumbers → Option Device
device_of numbers = option_map (device_with numbers) (device_kind_of numbers.kind)
