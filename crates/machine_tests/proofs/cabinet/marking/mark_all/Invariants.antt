use Rattle.std.proofs.Common.{◌≡◌, ◌<◌}
use Rattle.std.specs.Prelude.{Some}
use Rattle.machine_tests.specs.declared.cabinet.boards.Board.{Board}
use Rattle.machine_tests.proofs.cabinet.marking.mark_all.Given as goal

abbrev pub invariant-loop-page : goal.invariant-loop-page
invariant-loop-page l = (l.pass.cabinet ≡ l.cabinet.id) × ((e : Board) × (l.pass.edition ≡ Some e) × (0 < e.number))
