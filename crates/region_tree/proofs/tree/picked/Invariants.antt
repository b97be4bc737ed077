use Rattle.std.proofs.Common.{◌≡◌, take}
use Rattle.region_slots.specs.Slots.{nodes_of}
use Rattle.region_tree.specs.Reach.{picked}
use Rattle.region_tree.proofs.tree.picked.Given as goal

-- those so far
abbrev pub invariant-loop-at : goal.invariant-loop-at
invariant-loop-at l = l.list.items ≡ picked (nodes_of (take l.at l.slots)) l.marks
