-- A region looks like itself.
use Rattle.std.proofs.Common.{◌≡◌, true, Option, Some, None, refl}
use Rattle.std.proofs.lemmas.Cmp.{int_cmp_total, tied_itself}
use Rattle.mem_base.specs.declared.map.ids.RegionId.{RegionId}
use Rattle.mem_base.specs.declared.map.forests.Node.{Node}
use Rattle.mem_base.specs.declared.map.kinds.Kind.{Kind}
use Rattle.mem_base.specs.declared.map.kinds.Kind.TheVariants.{RomDevice, Io, Alias}
use Rattle.mem_base.specs.declared.map.kinds.Device.{Device}
use Rattle.mem_base.specs.declared.map.kinds.DeviceKind.{DeviceKind}
use Rattle.mem_base.specs.declared.map.kinds.DeviceKind.TheVariants.{Latch}
use Rattle.mem_base.specs.declared.map.kinds.Ops.{Ops}
use Rattle.mem_base.specs.map.Touched.{is_same_region, is_same_device_kind, is_same_ops, is_same_device, is_same_kind, looks_alike, stays_alike}
use Rattle.mem_base.proofs.BoolLaws.{bool_itself, number_itself}

device_kind_itself : (k : DeviceKind) → is_same_device_kind k k ≡ true
device_kind_itself Latch = refl
device_kind_itself _ = refl

ops_itself : (x : Ops) → is_same_ops x x ≡ true
ops_itself x =
    let a = number_itself x.valid_min in let b = number_itself x.valid_max in let c = bool_itself x.valid_unaligned in
    let d = number_itself x.impl_min in let e = number_itself x.impl_max in let h = bool_itself x.impl_unaligned in let i = bool_itself x.big in
    rw (a, b, c, d, e, h, i) refl

device_itself : (x : Device) → is_same_device x x ≡ true
device_itself x = let a = device_kind_itself x.kind in let b = number_itself x.regs in let c = ops_itself x.ops in rw (a, b, c) refl

kind_itself : (k : Kind) → is_same_kind k k ≡ true
kind_itself (RomDevice x) = device_itself x
kind_itself (Io x) = device_itself x
kind_itself (Alias r x) = let a = number_itself r.0 in let b = number_itself x in rw (a, b) refl
kind_itself _ = refl

region_itself : (o : Option RegionId) → is_same_region o o ≡ true
region_itself None = refl
region_itself (Some r) = number_itself r.0

looks_itself : (n : Node) → looks_alike n n ≡ true
looks_itself n =
    let a = kind_itself n.kind in let b = number_itself n.size in let c = region_itself n.parent in let d = number_itself n.offset in
    let e = tied_itself int_cmp_total n.priority in let h = number_itself n.placing in let i = bool_itself n.enabled in
    let j = bool_itself n.readonly in let k = bool_itself n.nonvolatile in let l = bool_itself n.romd in
    let m = bool_itself n.unmergeable in let o = number_itself n.log in
    rw (a, b, c, d, e, h, i, j, k, l, m, o) refl

pub stays_itself : (o : Option Node) → stays_alike o o ≡ true
stays_itself None = refl
stays_itself (Some n) = looks_itself n
