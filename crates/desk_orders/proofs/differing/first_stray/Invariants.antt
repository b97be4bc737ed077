use Rattle.std.proofs.Common.{◌≡◌}
use Rattle.desk_orders.proofs.DifferLaws.{stray_from}
use Rattle.desk_orders.proofs.differing.first_stray.Given as goal

abbrev pub invariant-loop-i : goal.invariant-loop-i
invariant-loop-i l = stray_from l.clerks l.entries 0 ≡ stray_from l.clerks l.entries l.i
