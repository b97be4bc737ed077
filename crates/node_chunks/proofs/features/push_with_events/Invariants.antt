use Rattle.std.proofs.Common.{◌≡◌, ◌++◌, drop, filter, length}
use Rattle.std.specs.Prelude.{nat_lt}
use Rattle.mem_base.specs.map.Order.{ids_of}
use Rattle.node_chunks.proofs.features.push_with_events.Given as goal

-- the ids so far, and those of the regions that are left
abbrev pub invariant-loop-node : goal.invariant-loop-node
invariant-loop-node l =
    l.list.items ++ ids_of (filter (λ n. nat_lt 0 (length n.events)) (drop l.node-index l.nodes))
    ≡ l.fn.list.items ++ ids_of (filter (λ n. nat_lt 0 (length n.events)) l.nodes)
