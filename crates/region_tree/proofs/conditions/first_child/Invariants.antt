use Rattle.std.proofs.Common.{◌≡◌, drop}
use Rattle.std.specs.Prelude.{find}
use Rattle.mem_base.specs.map.Region.{is_child_of}
use Rattle.region_slots.specs.Slots.{nodes_of}
use Rattle.region_tree.proofs.conditions.first_child.Given as goal

-- the first child is among those that are left
abbrev pub invariant-loop-slot : goal.invariant-loop-slot
invariant-loop-slot l = find (is_child_of l.region) (nodes_of (drop l.slot-index l.slots)) ≡ find (is_child_of l.region) (nodes_of l.slots)
