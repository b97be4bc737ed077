-- Where some addresses lead: bytes of a leaf, in its region.
use Rattle.std.specs.Prelude.{◌≡◌, ℕ, ◌+◌, ◌≤◌, true, IfSome}
use Rattle.mem_base.specs.declared.map.spots.Spot.{Spot}
use Rattle.mem_base.specs.declared.map.forests.Forest.{Forest}
use Rattle.mem_base.specs.declared.access.accesses.Target.{Target}
use Rattle.mem_base.specs.declared.access.accesses.Target.TheVariants.{Leaf, Unassigned}
use Rattle.mem_base.specs.map.Region.{node_of}
use Rattle.mem_base.specs.views.Naming.{names}

-- the forest names the leaf, and some bytes of it, from a spot on, lie in its region
pub record IsLeafRun (f : Forest) (spot : Spot) (bytes : ℕ) : Type 0 where
  pub named : names f spot.leaf ≡ true
  pub within : IfSome (node_of f.nodes spot.leaf) (λ n. spot.offset + bytes ≤ n.size)

-- the same of where some addresses lead
abbrev pub IsTargetRun : Forest → Target → ℕ → Type 0
IsTargetRun f (Leaf spot) bytes = IsLeafRun f spot bytes
IsTargetRun f Unassigned bytes = Unit {0}
