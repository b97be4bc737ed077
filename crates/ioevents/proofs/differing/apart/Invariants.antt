use Rattle.std.proofs.Common.{◌+◌, ◌-◌, ◌≤◌, length, drop}
use Rattle.ioevents.proofs.DifferLaws.{IsDiffering}
use Rattle.ioevents.proofs.differing.apart.Given as goal

abbrev pub invariant-loop-i : goal.invariant-loop-i
invariant-loop-i l = record {
  differing : IsDiffering l.old l.new l.lost.items l.gained.items (drop l.i l.old) (drop l.j l.new);
  within_old : l.i ≤ length l.old;
  within_new : l.j ≤ length l.new;
}

abbrev pub decreases-loop-i : goal.decreases-loop-i
decreases-loop-i l = (length l.old - l.i) + (length l.new - l.j)
