use Rattle.std.proofs.Common.{◌≡◌}
use Rattle.region_slots.specs.Slots.{nodes_of}
use Rattle.region_extents.specs.Extents.{extents_by}
use Rattle.region_extents.proofs.rounds.lengthened.Given as goal

-- the extents over paths of this length
abbrev pub invariant-loop-round : goal.invariant-loop-round
invariant-loop-round l = l.known.items ≡ extents_by (nodes_of l.slots) l.join l.round l.slots
