use Rattle.std.proofs.Common.{◌≡◌, ◌<◌, ◌++◌, length, drop}
use Rattle.std.specs.Prelude.{flat_map}
use Rattle.std.specs.Arc.{arc_value}
use Rattle.mem_base.specs.lists.Every.{Every}
use Rattle.region_slots.specs.Slots.{nodes_of}
use Rattle.node_chunks.specs.Near.{AreLeft}
use Rattle.node_chunks.proofs.near.nodes_near.Given as goal

-- the regions that are done, and what is left of the old ones and the new ones
abbrev pub invariant-loop-i : goal.invariant-loop-i
invariant-loop-i l = record {
  value : flat_map arc_value l.chunks.items ++ nodes_of l.rest ≡ nodes_of l.fn.slots;
  left : AreLeft l.from.0 (flat_map arc_value (drop l.i l.old)) (nodes_of l.rest) l.changed;
  filled : Every (λ c. 0 < length (arc_value c)) l.chunks.items;
  old_filled : Every (λ c. 0 < length (arc_value c)) l.old;
}
