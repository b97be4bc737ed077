use Rattle.std.proofs.Common.{◌≡◌, ◌+◌, ◌*◌, map, drop}
use Rattle.mem_base.specs.map.Steps.{steps_of, weight_by, total}
use Rattle.region_extents.proofs.paths.+widen.Given as goal

abbrev pub decreases-weight_over : goal.decreases-weight_over
decreases-weight_over l = 2 * l.most + 1

abbrev pub decreases-weight_within : goal.decreases-weight_within
decreases-weight_within l = 2 * l.most

-- the weights so far and of those that are left
abbrev pub invariant-weight_over-loop-id : goal.invariant-weight_over-loop-id
invariant-weight_over-loop-id l =
    total (map (weight_by (steps_of l.slots) l.most) l.regions) ≡ l.weight + total (map (weight_by (steps_of l.slots) l.most) (drop l.id-index l.regions))
