-- Who answers at a leaf, as the code keeps it.
use Rattle.std.specs.Prelude.{◌≡◌, ℕ, ◌+◌, ◌%◌, ◌^◌, ◌≤◌, Bool, true, false, if◌then◌else◌, IfSome, IsSome, IsSomeAnd}
use Rattle.mem_base.specs.declared.map.ids.RegionId.{RegionId}
use Rattle.mem_base.specs.declared.map.forests.Forest.{Forest}
use Rattle.mem_base.specs.declared.map.spots.Spot.{Spot}
use Rattle.mem_base.specs.declared.map.kinds.Ops.{Ops}
use Rattle.mem_base.specs.declared.map.kinds.Kind.{Kind}
use Rattle.mem_base.specs.declared.access.accesses.Target.TheVariants.{Leaf}
use Rattle.mem_base.specs.map.Limits.{page_size}
use Rattle.mem_base.specs.map.Region.{node_of}
use Rattle.mem_base.specs.map.Kinds.{device_of, is_memory, has_bytes}
use Rattle.mem_base.specs.views.Naming.{names}
use Rattle.mem_base.specs.views.LiveEvents.{events_of}
use Rattle.mem_base.specs.access.Plans as plans
use Rattle.access_cut.specs.Conditions.{AreGood}
use Rattle.access_base.specs.Leaves.{IsLeafRun}
use Rattle.access_plan.specs.HostPlans.{answerer_by, answerer_with_host}
use Rattle.access_plan.specs.declared.answerers.Answerer.{Answerer}
use Rattle.access_plan.specs.declared.answerers.Answerer.TheVariants.{Memory, Device, Nobody}

abbrev pub memory_unless : Bool → Answerer
memory_unless shut = if shut then Nobody else Memory

abbrev pub rom_device : Bool → Ops → Answerer
rom_device direct ops = if direct then Memory else Device ops

-- the definition's answerer
abbrev pub meant : Forest → Spot → Answerer → plans.Answerer
meant f spot Memory = plans.by_memory spot
meant f spot (Device ops) = plans.by_device spot.leaf spot.offset ops (events_of f spot.leaf)
meant f spot Nobody = plans.by_nobody

-- the forest names the region, which is reached through a device
pub record IsDeviceRegion (f : Forest) (region : RegionId) : Type 0 where
  pub named : names f region ≡ true
  pub kind : IsSomeAnd (node_of f.nodes region) (λ n. IsSome (device_of n.kind))

-- the region is reached through a device, whose sizes are good, and offsets in it have 64 bits
pub record IsSoundDevice (f : Forest) (spot : Spot) (ops : Ops) : Type 0 where
  pub kind : IsSomeAnd (node_of f.nodes spot.leaf) (λ n. IsSome (device_of n.kind))
  pub good : AreGood ops
  pub fits : (bytes : ℕ) → IsLeafRun f spot bytes → spot.offset + bytes ≤ 2 ^ 64

-- the region is memory, and whole pages
pub record IsSoundMemory (f : Forest) (spot : Spot) : Type 0 where
  pub kind : IsSomeAnd (node_of f.nodes spot.leaf) (λ n. is_memory n.kind ≡ true)
  pub pages : IfSome (node_of f.nodes spot.leaf) (λ n. n.size % page_size ≡ 0)

abbrev pub IsSound : Forest → Spot → Answerer → Type 0
IsSound f spot (Device ops) = IsSoundDevice f spot ops
IsSound f spot Memory = IsSoundMemory f spot
IsSound f spot Nobody = Unit {0}

-- this answers a write, or a read, at the spot
pub record IsAnswerer (f : Forest) (spot : Spot) (write : Bool) (who : Answerer) : Type 0 where
  pub is : answerer_with_host f write (Leaf spot) ≡ meant f spot who
  pub sound : IsSound f spot who

-- memory whose bytes a machine has: all memory, or all but the host's
abbrev pub has_memory : Bool → Kind → Bool
has_memory true = is_memory
has_memory false = has_bytes

-- where memory answers, the machine has its bytes
abbrev pub HasMemory : Bool → Forest → Spot → Answerer → Type 0
HasMemory host f spot Memory = IsSomeAnd (node_of f.nodes spot.leaf) (λ n. has_memory host n.kind ≡ true)
HasMemory host f spot _ = Unit {0}

-- the same of a machine that has the bytes of the host's memory, or has not
pub record IsAnswererBy (host : Bool) (f : Forest) (spot : Spot) (write : Bool) (who : Answerer) : Type 0 where
  pub is : answerer_by host f write (Leaf spot) ≡ meant f spot who
  pub sound : IsSound f spot who
  pub bytes : HasMemory host f spot who
