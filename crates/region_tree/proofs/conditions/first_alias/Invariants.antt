use Rattle.std.proofs.Common.{◌≡◌, drop}
use Rattle.std.specs.Prelude.{find}
use Rattle.mem_base.specs.map.Refusals.{targets}
use Rattle.region_slots.specs.Slots.{nodes_of}
use Rattle.region_tree.proofs.conditions.first_alias.Given as goal

-- the first alias is among those that are left
abbrev pub invariant-loop-slot : goal.invariant-loop-slot
invariant-loop-slot l = find (λ n. targets l.region n.kind) (nodes_of (drop l.slot-index l.slots)) ≡ find (λ n. targets l.region n.kind) (nodes_of l.slots)
