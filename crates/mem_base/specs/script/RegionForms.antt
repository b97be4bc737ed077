-- The lines that make a region, from their second word on.
use Rattle.std.specs.Prelude.{ℕ, Bool, List, [], ◌∷◌, codes}
use Rattle.mem_base.specs.declared.map.kinds.Device.{Device}
use Rattle.mem_base.specs.declared.map.kinds.DeviceKind.{DeviceKind}
use Rattle.mem_base.specs.declared.map.kinds.DeviceKind.TheVariants.{Latch, Count, Bell, Fault}
use Rattle.mem_base.specs.declared.script.commands.Command.{Command}
use Rattle.mem_base.specs.declared.script.commands.Command.TheVariants as commands
use Rattle.mem_base.specs.declared.script.commands.RegionKind.TheVariants as region_kinds
use Rattle.mem_base.specs.script.Spelling.{Text}
use Rattle.mem_base.specs.script.Operands.{◌>>=◌, Form, Operand, address, decimal_number, ends, ends_after_options, flag, give, name}
use Rattle.mem_base.specs.script.Operands.{one_of, optional, range, size}

-- a device, by what its line says
abbrev pub device_with : DeviceKind → ℕ → ℕ × ℕ → ℕ × ℕ → Bool → Bool → Bool → Device
device_with kind regs valid impl valid_unaligned impl_unaligned big = record {
  kind = kind;
  regs = regs;
  ops = record {
    valid_min = valid.0;
    valid_max = valid.1;
    valid_unaligned = valid_unaligned;
    impl_min = impl.0;
    impl_max = impl.1;
    impl_unaligned = impl_unaligned;
    big = big;
  };
}

-- latch|count|bell|fault
abbrev pub device_kinds : List (Text × DeviceKind)
device_kinds = (codes "latch", Latch) ∷ (codes "count", Count) ∷ (codes "bell", Bell) ∷ (codes "fault", Fault) ∷ []

-- what the registers of a device do
abbrev pub device_kind : Operand DeviceKind
device_kind = one_of device_kinds

-- DEVICE: latch|count|bell|fault [regs REGS] [valid A-B] [impl A-B] [vunaligned] [iunaligned] [big]
abbrev pub device : Operand Device
device = do
  kind ← device_kind
  regs ← optional (codes "regs") (decimal_number 65535) 1
  valid ← optional (codes "valid") range (1, 4)
  impl ← optional (codes "impl") range (1, 4)
  valid_unaligned ← flag (codes "vunaligned")
  impl_unaligned ← flag (codes "iunaligned")
  big ← flag (codes "big")
  give (device_with kind regs valid impl valid_unaligned impl_unaligned big)

-- DEVICE at the end of a line
abbrev pub with_device : (Device → Command) → Form Command
with_device make = do
  d ← device
  ends_after_options d.ops.big (make d)

-- container SIZE
abbrev pub container : Text → Form Command
container name = do ends (commands.Region name (← size) region_kinds.Container)

-- ram SIZE
abbrev pub ram : Text → Form Command
ram name = do ends (commands.Region name (← size) region_kinds.Ram)

-- rom SIZE
abbrev pub rom : Text → Form Command
rom name = do ends (commands.Region name (← size) region_kinds.Rom)

-- romdev SIZE DEVICE
abbrev pub romdev : Text → Form Command
romdev name = do
  n ← size
  with_device (λ d. commands.Region name n (region_kinds.RomDevice d))

-- io SIZE DEVICE
abbrev pub io : Text → Form Command
io name = do
  n ← size
  with_device (λ d. commands.Region name n (region_kinds.Io d))

-- iommu SIZE
abbrev pub iommu : Text → Form Command
iommu name = do ends (commands.Region name (← size) region_kinds.Iommu)

-- alias SIZE REGION OFFSET
abbrev pub alias : Text → Form Command
alias region = do ends (commands.Region region (← size) (region_kinds.Alias (← name) (← address)))

-- reserve SIZE
abbrev pub reserve : Text → Form Command
reserve name = do ends (commands.Region name (← size) region_kinds.Reserve)

-- each kind of region, with the form of what it takes
abbrev pub region_forms : Text → List (Text × Form Command)
region_forms name =
    (codes "container", container name) ∷ (codes "ram", ram name) ∷ (codes "rom", rom name)
    ∷ (codes "romdev", romdev name) ∷ (codes "io", io name) ∷ (codes "iommu", iommu name)
    ∷ (codes "alias", alias name) ∷ (codes "reserve", reserve name) ∷ []

-- region NAME, and the kind with what it takes
abbrev pub region : Form Command
region = do
  region ← name
  form ← one_of (region_forms region)
  form
