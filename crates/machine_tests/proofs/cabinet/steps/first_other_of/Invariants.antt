use Rattle.std.proofs.Common.{◌≡◌}
use Rattle.machine_tests.proofs.cabinet.steps.first_other_of.Given as goal

abbrev pub invariant-loop-number : goal.invariant-loop-number
invariant-loop-number g l = (l.writer.cabinet ≡ l.fn.writer.cabinet) × (l.writer.sizes ≡ l.fn.writer.sizes)
