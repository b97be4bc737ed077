use Rattle.std.proofs.Common.{◌≡◌}
use Rattle.std.specs.Prelude.{All, None}
use Rattle.machine_tests.proofs.cabinet.crowds.crew.Given as goal

abbrev pub invariant-loop : goal.invariant-loop
invariant-loop l =
    (l.writer.cabinet ≡ l.fn.writer.cabinet) × (l.writer.sizes ≡ l.fn.writer.sizes)
    × All (λ p. (p.cabinet ≡ l.cabinet.id) × (p.edition ≡ None)) l.passes.items
