use Rattle.std.proofs.Common.{◌≡◌, drop}
use Rattle.std.specs.List.{list_all}
use Rattle.mem_base.specs.map.Steps.{depth_by, weight_by, longest}
use Rattle.region_slots.specs.Slots.{nodes_of}
use Rattle.region_extents.specs.Extents.{steps_with}
use Rattle.region_extents.specs.Room.{are_within, is_within}
use Rattle.region_extents.proofs.limits.stays_within.Given as goal

-- all regions so far are within the limits
abbrev pub invariant-loop-slot : goal.invariant-loop-slot
invariant-loop-slot l =
    let steps = steps_with l.slots l.join in
    are_within l.slots l.join ≡ list_all (λ n. is_within (depth_by steps longest n.id) (weight_by steps longest n.id)) (nodes_of (drop l.slot-index l.slot-items))
