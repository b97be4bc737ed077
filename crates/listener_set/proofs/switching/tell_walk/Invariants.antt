use Rattle.std.proofs.Common.{◌≡◌, ◌+◌, ◌≤◌, ◌++◌, drop, map, length, vec_len, vec_capacity}
use Rattle.mem_base.specs.declared.views.listening.ListenerEvent.TheVariants.{Range}
use Rattle.listener_set.specs.Switches.{told_all}
use Rattle.listener_set.proofs.switching.tell_walk.Given as goal

abbrev pub invariant-loop-event : goal.invariant-loop-event
invariant-loop-event l = record {
  items : l.journal.items ++ told_all l.space l.order (map (λ e. Range e) (drop l.event-index l.walk)) ≡ l.fn.journal.items
      ++ told_all l.space l.order (map (λ e. Range e) l.walk);
  len : vec_len l.journal + length (told_all l.space l.order (map (λ e. Range e) (drop l.event-index l.walk)))
      ≡ vec_len l.fn.journal + length (told_all l.space l.order (map (λ e. Range e) l.walk));
  room : vec_capacity l.fn.journal ≤ vec_capacity l.journal;
}
