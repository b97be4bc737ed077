use Rattle.std.proofs.Common.{◌≡◌, length, take}
use Rattle.region_slots.specs.Slots.{nodes_of}
use Rattle.node_chunks.proofs.near.chunk_of.Given as goal

-- the regions so far are copied
abbrev pub invariant-loop-slot : goal.invariant-loop-slot
invariant-loop-slot l = record {
  copied : l.list.items ≡ nodes_of (take l.slot-index l.slots);
  count : length l.list.items ≡ l.slot-index;
}
