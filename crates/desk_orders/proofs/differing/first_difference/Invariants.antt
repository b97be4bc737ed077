use Rattle.std.proofs.Common.{◌≡◌, ◌≤◌, length, take}
use Rattle.mem_base.specs.machine.Records.{entries_by}
use Rattle.desk_orders.proofs.differing.first_difference.Given as goal

abbrev pub invariant-loop-i : goal.invariant-loop-i
invariant-loop-i l = (l.at ≤ length l.mine) × (take l.at l.mine ≡ entries_by l.who (take l.i l.entries))
