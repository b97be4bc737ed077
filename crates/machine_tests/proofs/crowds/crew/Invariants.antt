use Rattle.std.proofs.Common.{◌≡◌}
use Rattle.machine_tests.proofs.crowds.crew.Given as goal

abbrev pub invariant-loop-mine : goal.invariant-loop-mine
invariant-loop-mine l = l.config.seat.cabinet ≡ l.cabinet.id
