use Rattle.std.proofs.Common.{◌≡◌, ◌<◌}
use Rattle.std.specs.Prelude.{Some}
use Rattle.machine_tests.specs.declared.cabinet.boards.Board.{Board}
use Rattle.machine_tests.proofs.cabinet.crowds.add_many.Given as goal

abbrev pub invariant-loop : goal.invariant-loop
invariant-loop l = (l.pass.cabinet ≡ l.cabinet.id) × ((e : Board) × (l.pass.edition ≡ Some e) × (0 < e.number))
