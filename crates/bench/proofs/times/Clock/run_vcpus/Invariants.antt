use Rattle.std.proofs.Common.{◌≡◌}
use Rattle.bench.proofs.times.Clock.run_vcpus.Given as goal

abbrev pub invariant-loop : goal.invariant-loop
invariant-loop g l = l.config.seat.cabinet ≡ l.shared.id
