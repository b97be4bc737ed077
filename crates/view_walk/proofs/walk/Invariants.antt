use Rattle.std.proofs.Common.{◌+◌, ◌-◌, ◌≤◌, length, drop}
use Rattle.view_walk.proofs.SideLaws.{IsWalking}
use Rattle.view_walk.proofs.walk.Given as goal

abbrev pub invariant-loop-next : goal.invariant-loop-next
invariant-loop-next l = record {
  walking : IsWalking l.fn.old l.fn.new l.steps.items l.shown.items (drop l.i l.fn.old) (drop l.j l.fn.new);
  within_old : l.i ≤ length l.fn.old;
  within_new : l.j ≤ length l.fn.new;
}

abbrev pub decreases-loop-next : goal.decreases-loop-next
decreases-loop-next l = (length l.fn.old - l.i) + (length l.fn.new - l.j)
