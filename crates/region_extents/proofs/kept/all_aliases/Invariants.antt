use Rattle.std.proofs.Common.{◌≡◌, take, map}
use Rattle.mem_base.specs.declared.map.forests.Node.{Node}
use Rattle.region_slots.specs.Slots.{nodes_of}
use Rattle.region_extents.specs.Kept.{aliases_of}
use Rattle.region_extents.proofs.kept.all_aliases.Given as goal

-- the lists so far
abbrev pub invariant-loop-slot : goal.invariant-loop-slot
invariant-loop-slot l = l.lists.items ≡ map (λ (n : Node). aliases_of (nodes_of l.slots) n.id) (nodes_of (take l.slot-index l.slots))
