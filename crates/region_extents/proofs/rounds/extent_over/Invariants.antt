use Rattle.std.proofs.Common.{◌≡◌, ◌+◌, max, map, drop}
use Rattle.mem_base.specs.map.Steps.{greatest, total, depth_by, weight_by}
use Rattle.region_slots.specs.Slots.{nodes_of}
use Rattle.region_extents.specs.Extents.{steps_with}
use Rattle.region_extents.proofs.rounds.extent_over.Given as goal

-- the extents so far and those that are left
abbrev pub invariant-loop-id : goal.invariant-loop-id
invariant-loop-id l = record {
  depth : greatest (map (depth_by (steps_with (nodes_of l.slots) l.join) l.round) l.ids) ≡ max l.depth
      (greatest (map (depth_by (steps_with (nodes_of l.slots) l.join) l.round) (drop l.id-index l.ids)));
  weight : total (map (weight_by (steps_with (nodes_of l.slots) l.join) l.round) l.ids) ≡ l.weight + total
      (map (weight_by (steps_with (nodes_of l.slots) l.join) l.round) (drop l.id-index l.ids));
}
