use Rattle.std.proofs.Common.{◌≡◌, take}
use Rattle.mem_base.specs.map.Order.{ids_of}
use Rattle.region_slots.specs.Slots.{nodes_of}
use Rattle.region_extents.proofs.kept.all_ids.Given as goal

-- the regions so far
abbrev pub invariant-loop-slot : goal.invariant-loop-slot
invariant-loop-slot l = l.list ≡ ids_of (nodes_of (take l.slot-index l.slots))
