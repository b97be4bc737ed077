use Rattle.std.proofs.Common.{◌≡◌}
use Rattle.machine_tests.proofs.cabinet.crowds.publish_many.Given as goal

abbrev pub invariant-loop : goal.invariant-loop
invariant-loop l = (l.writer.cabinet ≡ l.cabinet.id) × (l.writer.sizes.passes ≡ 1) × (l.writer.sizes.words ≡ 32835)
