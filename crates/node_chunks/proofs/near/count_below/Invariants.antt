use Rattle.std.proofs.Common.{◌≡◌, true, take}
use Rattle.mem_base.specs.lists.Every.{Every}
use Rattle.region_slots.specs.Slots.{nodes_of}
use Rattle.node_chunks.specs.Near.{is_below}
use Rattle.node_chunks.proofs.near.count_below.Given as goal

-- the regions so far are below the bound
abbrev pub invariant-loop-i : goal.invariant-loop-i
invariant-loop-i l = Every (λ n. is_below l.bound n.id.0 ≡ true) (nodes_of (take l.i l.slots))
