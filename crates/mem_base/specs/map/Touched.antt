-- What a change of the forest can alter in the view of a space.
-- A view shows only regions that the search can come to from the root of the space. QEMU's core renders every space
-- again when a transaction ends; that only touched spaces need it is this project's own rule.
use Rattle.std.specs.Prelude.{◌==◌, ◌&&◌, ◌||◌, not, Bool, true, false, List, ◌++◌, Option, Some, None, filter}
use Rattle.std.specs.List.{list_any}
use Rattle.std.specs.Ordering.{int_cmp, is_eq}
use Rattle.mem_base.specs.declared.map.ids.RegionId.{RegionId}
use Rattle.mem_base.specs.declared.map.ids.SpaceId.{SpaceId}
use Rattle.mem_base.specs.declared.map.forests.Node.{Node}
use Rattle.mem_base.specs.declared.map.forests.Forest.{Forest}
use Rattle.mem_base.specs.declared.map.kinds.Kind.{Kind}
use Rattle.mem_base.specs.declared.map.kinds.Kind.TheVariants.{Container, Ram, Rom, RomDevice, Io, Iommu, Alias, Reserve, Host}
use Rattle.mem_base.specs.declared.map.kinds.Device.{Device}
use Rattle.mem_base.specs.declared.map.kinds.DeviceKind.{DeviceKind}
use Rattle.mem_base.specs.declared.map.kinds.DeviceKind.TheVariants.{Latch, Count, Bell, Fault}
use Rattle.mem_base.specs.declared.map.kinds.Ops.{Ops}
use Rattle.mem_base.specs.map.Region.{node_of}
use Rattle.mem_base.specs.map.Order.{ids_of}
use Rattle.mem_base.specs.map.Search.{root_of}
use Rattle.mem_base.specs.map.Steps.{reaches}
use Rattle.mem_base.specs.lists.Booleans.{bool_eq}

-- a region is reached from a root by steps to children and alias targets
abbrev pub is_reached_from : List Node → Option RegionId → RegionId → Bool
is_reached_from nodes None r = false
is_reached_from nodes (Some root) r = reaches nodes root r

-- the root of a space is reached, and so are the children and the alias target of each reached region
abbrev pub is_reached : Forest → SpaceId → RegionId → Bool
is_reached f s r = is_reached_from f.nodes (root_of f s) r

-- the regions that are reached, by ascending id; none where there is no such space
abbrev pub reached : Forest → SpaceId → List RegionId
reached f s = ids_of (filter (λ n. is_reached f s n.id) f.nodes)

-- one and the same region, or none and none
abbrev pub is_same_region : Option RegionId → Option RegionId → Bool
is_same_region None None = true
is_same_region (Some r) (Some q) = r.0 == q.0
is_same_region _ _ = false

-- two kinds of device are one
abbrev pub is_same_device_kind : DeviceKind → DeviceKind → Bool
is_same_device_kind Latch Latch = true
is_same_device_kind Count Count = true
is_same_device_kind Bell Bell = true
is_same_device_kind Fault Fault = true
is_same_device_kind _ _ = false

-- two devices take the same sizes, and have the same order of bytes
abbrev pub is_same_ops : Ops → Ops → Bool
is_same_ops x y =
    (x.valid_min == y.valid_min) && (x.valid_max == y.valid_max) && bool_eq x.valid_unaligned y.valid_unaligned
    && (x.impl_min == y.impl_min) && (x.impl_max == y.impl_max) && bool_eq x.impl_unaligned y.impl_unaligned
    && bool_eq x.big y.big

-- two devices are alike in all
abbrev pub is_same_device : Device → Device → Bool
is_same_device x y = is_same_device_kind x.kind y.kind && (x.regs == y.regs) && is_same_ops x.ops y.ops

-- two kinds are one, with their devices and targets
abbrev pub is_same_kind : Kind → Kind → Bool
is_same_kind Container Container = true
is_same_kind Ram Ram = true
is_same_kind Rom Rom = true
is_same_kind (RomDevice x) (RomDevice y) = is_same_device x y
is_same_kind (Io x) (Io y) = is_same_device x y
is_same_kind Iommu Iommu = true
is_same_kind (Alias r x) (Alias q y) = (r.0 == q.0) && (x == y)
is_same_kind Reserve Reserve = true
is_same_kind Host Host = true
is_same_kind _ _ = false

-- the same but for translations and ioeventfds, which no view shows
abbrev pub looks_alike : Node → Node → Bool
looks_alike n m =
    is_same_kind n.kind m.kind && (n.size == m.size) && is_same_region n.parent m.parent && (n.offset == m.offset)
    && is_eq (int_cmp n.priority m.priority) && (n.placing == m.placing) && bool_eq n.enabled m.enabled
    && bool_eq n.readonly m.readonly && bool_eq n.nonvolatile m.nonvolatile && bool_eq n.romd m.romd
    && bool_eq n.unmergeable m.unmergeable && (n.log == m.log)

-- a region is in both forests and looks alike there, or is in neither
abbrev pub stays_alike : Option Node → Option Node → Bool
stays_alike None None = true
stays_alike (Some n) (Some m) = looks_alike n m
stays_alike _ _ = false

-- a space is touched from one forest to another: its root is another, global logging is switched, or a region that is
-- reached in one of them is only in one, or does not look alike in both
abbrev pub is_touched : Forest → Forest → SpaceId → Bool
is_touched f g s =
    not (is_same_region (root_of f s) (root_of g s)) || not (bool_eq f.global g.global)
    || list_any (λ r. not (stays_alike (node_of f.nodes r) (node_of g.nodes r))) (reached f s ++ reached g s)
