use Rattle.std.proofs.Common.{◌≡◌, ◌+◌, ◌≤◌, ◌++◌, drop, flat_map, length, vec_len, vec_capacity}
use Rattle.mem_base.specs.views.Listening.{deliveries_of}
use Rattle.listener_set.proofs.switching.tell_changes.Given as goal

abbrev pub invariant-loop-change : goal.invariant-loop-change
invariant-loop-change l = record {
  items : l.journal.items ++ flat_map (deliveries_of l.order) (drop l.change-index l.changes) ≡ l.fn.journal.items
      ++ flat_map (deliveries_of l.order) l.changes;
  len : vec_len l.journal + length (flat_map (deliveries_of l.order) (drop l.change-index l.changes))
      ≡ vec_len l.fn.journal + length (flat_map (deliveries_of l.order) l.changes);
  room : vec_capacity l.fn.journal ≤ vec_capacity l.journal;
}
