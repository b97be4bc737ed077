use Rattle.std.proofs.Common.{◌≡◌, ◌+◌, ◌≤◌, ◌++◌, take, length, vec_len, vec_capacity}
use Rattle.listener_set.specs.Sets.{told_down}
use Rattle.listener_set.proofs.delivering.tell_down.Given as goal

abbrev pub invariant-loop-i : goal.invariant-loop-i
invariant-loop-i l = record {
  items : l.journal.items ++ told_down l.space l.event (take l.i l.order) ≡ l.fn.journal.items ++ told_down l.space l.event l.order;
  len : vec_len l.journal + length (told_down l.space l.event (take l.i l.order)) ≡ vec_len l.fn.journal + length
      (told_down l.space l.event l.order);
  room : vec_capacity l.fn.journal ≤ vec_capacity l.journal;
}
