use Rattle.std.proofs.Common.{◌≡◌, ◌+◌, take}
use Rattle.region_slots.specs.Slots.{nodes_of}
use Rattle.region_extents.specs.Extents.{extents_by}
use Rattle.region_extents.proofs.rounds.lengthen.Given as goal

-- the new extents so far
abbrev pub invariant-loop-slot : goal.invariant-loop-slot
invariant-loop-slot l = l.new.items ≡ extents_by (nodes_of l.slots) l.join (l.round + 1) (take l.slot-index l.slots)
