use Rattle.std.proofs.Common.{◌≡◌, ◌+◌, drop, flat_map, length}
use Rattle.mem_base.specs.views.Listening.{deliveries_of}
use Rattle.listener_set.proofs.counting.count_changes.Given as goal

abbrev pub invariant-loop-change : goal.invariant-loop-change
invariant-loop-change l = l.count + length (flat_map (deliveries_of l.order) (drop l.change-index l.changes)) ≡ length
    (flat_map (deliveries_of l.order) l.changes)
