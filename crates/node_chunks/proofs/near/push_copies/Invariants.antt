use Rattle.std.proofs.Common.{◌≡◌, ◌<◌, ◌++◌, length}
use Rattle.std.specs.Prelude.{flat_map}
use Rattle.std.specs.Arc.{arc_value}
use Rattle.mem_base.specs.lists.Every.{Every}
use Rattle.region_slots.specs.Slots.{nodes_of}
use Rattle.node_chunks.proofs.near.push_copies.Given as goal

-- the regions that are copied, and those that are left
abbrev pub invariant-loop-rest : goal.invariant-loop-rest
invariant-loop-rest l = record {
  value : flat_map arc_value l.chunks.items ++ nodes_of l.rest ≡ flat_map arc_value l.fn.chunks.items ++ nodes_of l.fn.slots;
  filled : Every (λ c. 0 < length (arc_value c)) l.chunks.items;
}

abbrev pub decreases-loop-rest : goal.decreases-loop-rest
decreases-loop-rest l = length l.rest
