use Rattle.std.proofs.Common.{◌≡◌}
use Rattle.example_cpus.proofs.crew.Given as goal

abbrev pub invariant-loop-number : goal.invariant-loop-number
invariant-loop-number l = l.config.seat.cabinet ≡ l.cabinet.id
