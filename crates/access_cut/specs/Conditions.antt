-- What the access sizes and the pieces have to be that a device is asked with.
use Rattle.std.specs.Prelude.{ℕ, ◌≤◌, ◌+◌, ◌^◌, IsTrue, Contains}
use Rattle.mem_base.specs.declared.map.kinds.Ops.{Ops}
use Rattle.mem_base.specs.declared.map.kinds.Device.{Device}
use Rattle.mem_base.specs.declared.map.kinds.DeviceKind.TheVariants.{Latch}
use Rattle.mem_base.specs.declared.access.accesses.Piece.{Piece}
use Rattle.mem_base.specs.map.Devices.{is_good_device}
use Rattle.mem_base.specs.access.Pieces.{pieces}

abbrev pub device_with : Ops → Device
device_with ops = record { kind = Latch; regs = 1; ops = ops }

-- a device with one register may have these access sizes
abbrev pub AreGood : Ops → Type 0
AreGood ops = IsTrue (is_good_device (device_with ops))

abbrev pub IsGood : Device → Type 0
IsGood device = IsTrue (is_good_device device)

-- some access that ends below 2^64 is cut into pieces of which this is one
abbrev pub IsCut : Ops → Piece → Type 0
IsCut ops piece = (offset bytes : ℕ) × (offset + bytes ≤ 2 ^ 64) × Contains (pieces ops offset bytes) piece
