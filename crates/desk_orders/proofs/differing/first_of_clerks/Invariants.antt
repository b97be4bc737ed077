use Rattle.std.proofs.Common.{take}
use Rattle.mem_base.specs.lists.Every.{Every}
use Rattle.mem_base.specs.machine.Records.{IsOfRecord}
use Rattle.desk_orders.proofs.differing.first_of_clerks.Given as goal

abbrev pub invariant-loop-i : goal.invariant-loop-i
invariant-loop-i l = Every (IsOfRecord l.entries) (take l.i l.clerks)
