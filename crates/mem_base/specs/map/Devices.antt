-- The devices that a region may have.
-- QEMU's manual, "The memory API", "MMIO Operations": access sizes are 1, 2, 4 or 8. The bound on registers is this
-- project's own.
use Rattle.std.specs.Prelude.{ℕ, ◌==◌, ◌&&◌, ◌||◌, nat_le, Bool, false}
use Rattle.mem_base.specs.declared.map.kinds.Device.{Device}
use Rattle.mem_base.specs.declared.map.kinds.DeviceKind.{DeviceKind}
use Rattle.mem_base.specs.declared.map.kinds.Ops.{Ops}
use Rattle.mem_base.specs.map.Limits.{most_registers}

-- 1, 2, 4 or 8 bytes
abbrev pub is_access_size : ℕ → Bool
is_access_size n = (n == 1) || (n == 2) || (n == 4) || (n == 8)

-- its four sizes are access sizes, no least one is above its greatest, and it has 1 to 512 registers
abbrev pub is_good_device : Device → Bool
is_good_device d =
    is_access_size d.ops.valid_min && is_access_size d.ops.valid_max && is_access_size d.ops.impl_min && is_access_size d.ops.impl_max
    && nat_le d.ops.valid_min d.ops.valid_max && nat_le d.ops.impl_min d.ops.impl_max && nat_le 1 d.regs && nat_le d.regs most_registers

-- what a device has where nothing else is said: sizes of 1 to 4 bytes, aligned, little-endian
abbrev pub default_ops : Ops
default_ops = record {
  valid_min = 1;
  valid_max = 4;
  valid_unaligned = false;
  impl_min = 1;
  impl_max = 4;
  impl_unaligned = false;
  big = false;
}

-- a device with one register
abbrev pub plain_device : DeviceKind → Device
plain_device kind = record { kind = kind; regs = 1; ops = default_ops }
