use Rattle.std.proofs.Common.{◌≡◌}
use Rattle.std.specs.Prelude.{None}
use Rattle.machine_tests.proofs.cabinet.crowds.visit.Given as goal

abbrev pub invariant-loop : goal.invariant-loop
invariant-loop l = (l.pass.cabinet ≡ l.cabinet.id) × (l.pass.edition ≡ None)
