use Rattle.std.proofs.Common.{◌≡◌, take}
use Rattle.region_slots.proofs.slots.Slots.try_copy.Given as goal

-- the slots so far are copied
abbrev pub invariant-loop-slot : goal.invariant-loop-slot
invariant-loop-slot l = l.items.items ≡ take l.slot-index l.slot-items
