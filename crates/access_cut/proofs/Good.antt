-- What good sizes are.
use Rattle.std.proofs.Common.{◌≤◌, ◌&&◌, nat_le, Bool, arith}
use Rattle.std.proofs.lemmas.Bool.{leb-true}
use Rattle.std.proofs.lemmas.Bool.Decides.{nat_tests}
use Rattle.mem_base.specs.declared.map.kinds.Ops.{Ops}
use Rattle.mem_base.specs.declared.map.kinds.Device.{Device}
use Rattle.mem_base.specs.map.Devices.{is_access_size}
use Rattle.access_cut.specs.Conditions.{AreGood, IsGood}
use Rattle.mem_base.proofs.BoolLaws.{left_of, right_of}

pub some_valid : (ops : Ops) → AreGood ops → 1 ≤ ops.valid_max
some_valid ops good = grind (arith, nat_tests)

pub some_impl : (ops : Ops) → AreGood ops → 1 ≤ ops.impl_min
some_impl ops good = grind (arith, nat_tests)

-- all but the counts of registers
abbrev sizes_of : Device → Bool
sizes_of d =
    is_access_size d.ops.valid_min && is_access_size d.ops.valid_max && is_access_size d.ops.impl_min && is_access_size d.ops.impl_max
    && nat_le d.ops.valid_min d.ops.valid_max && nat_le d.ops.impl_min d.ops.impl_max

pub few_registers : (device : Device) → IsGood device → device.regs ≤ 512
few_registers device good = leb-true device.regs 512 (right_of (sizes_of device && nat_le 1 device.regs) (nat_le device.regs 512) good)

pub some_registers : (device : Device) → IsGood device → 1 ≤ device.regs
some_registers device good =
    leb-true 1 device.regs (right_of (sizes_of device) (nat_le 1 device.regs)
    (left_of (sizes_of device && nat_le 1 device.regs) (nat_le device.regs 512) good))
