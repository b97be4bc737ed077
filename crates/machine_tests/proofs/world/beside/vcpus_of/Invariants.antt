use Rattle.std.proofs.Common.{◌≡◌}
use Rattle.machine_tests.proofs.world.beside.vcpus_of.Given as goal

abbrev pub invariant-loop : goal.invariant-loop
invariant-loop l = l.config.seat.cabinet ≡ l.cabinet.id
