use Rattle.std.proofs.Common.{◌≡◌, ◌+◌, ◌*◌, ◌≤◌, max, map, drop}
use Rattle.mem_base.specs.map.Steps.{steps_of, depth_by, greatest}
use Rattle.region_extents.proofs.paths.+deepen.Given as goal

abbrev pub decreases-depth_over : goal.decreases-depth_over
decreases-depth_over l = 2 * l.most + 1

abbrev pub decreases-depth_within : goal.decreases-depth_within
decreases-depth_within l = 2 * l.most

-- the greatest so far and of those that are left
abbrev pub invariant-depth_over-loop-id : goal.invariant-depth_over-loop-id
invariant-depth_over-loop-id l = record {
  value : greatest (map (depth_by (steps_of l.slots) l.most) l.regions) ≡ max l.depth
      (greatest (map (depth_by (steps_of l.slots) l.most) (drop l.id-index l.regions)));
  within : l.depth ≤ l.most;
}
