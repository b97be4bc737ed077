-- What is told of a child, and the region that it is told of.
use Rattle.std.specs.Prelude.{◌≡◌, List, Some}
use Rattle.mem_base.specs.declared.map.forests.Node.{Node}
use Rattle.mem_base.specs.map.Region.{node_of}
use Rattle.region_slots.specs.declared.children.Child.{Child}
use Rattle.region_slots.specs.Slots.{child_of}

-- what is told of a child is so of the region with its id
abbrev pub IsChild : List Node → Child → Type 0
IsChild nodes c = (n : Node) × (node_of nodes c.id ≡ Some n) × (c ≡ child_of n)
