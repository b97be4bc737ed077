-- The access sizes of a good device are good.
use Rattle.std.proofs.Common.{◌≡◌, ◌&&◌, nat_le, Bool, true}
use Rattle.mem_base.specs.declared.map.kinds.Device.{Device}
use Rattle.mem_base.specs.map.Limits.{most_registers}
use Rattle.mem_base.specs.map.Devices.{is_access_size}
use Rattle.access_cut.specs.Conditions.{AreGood, IsGood}
use Rattle.mem_base.proofs.BoolLaws.{left_of}

-- all but the counts of registers
abbrev sizes_of : Device → Bool
sizes_of d =
    is_access_size d.ops.valid_min && is_access_size d.ops.valid_max && is_access_size d.ops.impl_min && is_access_size d.ops.impl_max
    && nat_le d.ops.valid_min d.ops.valid_max && nat_le d.ops.impl_min d.ops.impl_max

pub good_ops : (device : Device) → IsGood device → AreGood device.ops
good_ops device good =
    let e : sizes_of device ≡ true =
    left_of (sizes_of device) (nat_le 1 device.regs) (left_of (sizes_of device && nat_le 1 device.regs) (nat_le device.regs most_registers) good) in
    (λ i. e i && nat_le 1 1 && nat_le 1 most_registers)
