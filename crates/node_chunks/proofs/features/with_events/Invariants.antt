use Rattle.std.proofs.Common.{◌≡◌, take, filter, length}
use Rattle.std.specs.Prelude.{nat_lt, flat_map}
use Rattle.std.specs.Arc.{arc_value}
use Rattle.mem_base.specs.map.Order.{ids_of}
use Rattle.node_chunks.proofs.features.with_events.Given as goal

-- the ids of the regions of the chunks so far
abbrev pub invariant-loop-chunk : goal.invariant-loop-chunk
invariant-loop-chunk l =
    l.list.items ≡ ids_of (filter (λ n. nat_lt 0 (length n.events)) (flat_map arc_value (take l.chunk-index l.chunks)))
