use Rattle.std.proofs.Common.{◌≡◌, ◌+◌, ◌≤◌, ◌++◌, drop, length, vec_len, vec_capacity}
use Rattle.listener_set.specs.Sets.{told_up}
use Rattle.listener_set.proofs.delivering.tell_up.Given as goal

abbrev pub invariant-loop-listener : goal.invariant-loop-listener
invariant-loop-listener l = record {
  items : l.journal.items ++ told_up l.space l.event (drop l.listener-index l.order) ≡ l.fn.journal.items ++ told_up l.space l.event l.order;
  len : vec_len l.journal + length (told_up l.space l.event (drop l.listener-index l.order)) ≡ vec_len l.fn.journal + length (told_up l.space l.event l.order);
  room : vec_capacity l.fn.journal ≤ vec_capacity l.journal;
}
