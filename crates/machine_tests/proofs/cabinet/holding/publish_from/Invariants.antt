use Rattle.std.proofs.Common.{◌≡◌}
use Rattle.machine_tests.proofs.cabinet.holding.publish_from.Given as goal

abbrev pub invariant-loop-number : goal.invariant-loop-number
invariant-loop-number l = (l.writer.cabinet ≡ l.fn.writer.cabinet) × (l.writer.sizes ≡ l.fn.writer.sizes) × (l.writer.out ≡ l.fn.writer.out)
