use Rattle.std.proofs.Common.{◌≡◌, ◌+◌, ◌-◌, ◌≤◌, ◌++◌, drop, length, vec_len, vec_capacity}
use Rattle.mem_base.specs.lists.Sorting.{IsRising}
use Rattle.mem_base.specs.views.LiveEvents.{live_order}
use Rattle.listener_set.proofs.SwitchingLaws.{left_to_tell}
use Rattle.listener_set.proofs.switching.tell_switches.Given as goal

abbrev pub invariant-loop-next : goal.invariant-loop-next
invariant-loop-next l = record {
  items : l.journal.items ++ left_to_tell l.space l.order (drop l.i l.lost) (drop l.j l.gained) ≡ l.fn.journal.items
      ++ left_to_tell l.space l.order l.lost l.gained;
  len : vec_len l.journal + length (left_to_tell l.space l.order (drop l.i l.lost) (drop l.j l.gained))
      ≡ vec_len l.fn.journal + length (left_to_tell l.space l.order l.lost l.gained);
  room : vec_capacity l.fn.journal ≤ vec_capacity l.journal;
  rising_lost : IsRising live_order (drop l.i l.lost);
  rising_gained : IsRising live_order (drop l.j l.gained);
  within_lost : l.i ≤ length l.lost;
  within_gained : l.j ≤ length l.gained;
}

abbrev pub decreases-loop-next : goal.decreases-loop-next
decreases-loop-next l = (length l.lost - l.i) + (length l.gained - l.j)
