-- Values that the worked examples are made of.
use Rattle.std.specs.Prelude.{ℕ, Bool, false, List}
use Rattle.mem_base.specs.declared.map.ids.RegionId.{RegionId}
use Rattle.mem_base.specs.declared.map.ids.SpaceId.{SpaceId}
use Rattle.mem_base.specs.map.PassIds.{PassId}
use Rattle.mem_base.specs.declared.map.ids.ListenerId.{ListenerId}
use Rattle.mem_base.specs.declared.map.forests.Node.{Node}
use Rattle.mem_base.specs.declared.map.forests.Forest.{Forest}
use Rattle.mem_base.specs.declared.map.kinds.Ops.{Ops}
use Rattle.mem_base.specs.declared.map.kinds.Device.{Device}
use Rattle.mem_base.specs.declared.map.kinds.DeviceKind.{DeviceKind}
use Rattle.mem_base.specs.declared.map.translations.Entry.{Entry}
use Rattle.mem_base.specs.declared.map.translations.Perm.{Perm}

abbrev pub region : ℕ → RegionId
region n = record { 0 = n }

abbrev pub space : ℕ → SpaceId
space n = record { 0 = n }

abbrev pub pass : ℕ → PassId
pass n = record { 0 = n }

abbrev pub listener : ℕ → ListenerId
listener n = record { 0 = n }

-- a forest with these regions and spaces
abbrev pub forest_of : List Node → List (SpaceId × RegionId) → Forest
forest_of ns ss = record { nodes = ns; spaces = ss; made = 9; placings = 0; calls = 9; global = false }

-- the sizes valid A-B and impl C-D, aligned alone
abbrev pub ops : ℕ → ℕ → ℕ → ℕ → Bool → Ops
ops a b c d big = record { valid_min = a; valid_max = b; valid_unaligned = false; impl_min = c; impl_max = d; impl_unaligned = false; big = big }

abbrev pub device : DeviceKind → ℕ → Ops → Device
device kind regs sizes = record { kind = kind; regs = regs; ops = sizes }

-- a page of 4,096 bytes
abbrev pub entry : ℕ → SpaceId → ℕ → Perm → Entry
entry iova s to perm = record { iova = iova; mask = 4095; space = s; translated = to; perm = perm }
