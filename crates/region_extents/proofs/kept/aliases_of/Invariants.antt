use Rattle.std.proofs.Common.{◌≡◌, take}
use Rattle.region_slots.specs.Slots.{nodes_of}
use Rattle.region_extents.specs.Kept.{aliases_of}
use Rattle.region_extents.proofs.kept.aliases_of.Given as goal

-- the aliases so far
abbrev pub invariant-loop-slot : goal.invariant-loop-slot
invariant-loop-slot l = l.list ≡ aliases_of (nodes_of (take l.slot-index l.slots)) l.region
