use Rattle.machine_tests.proofs.BoardLaws.{board_edition}
use Rattle.machine_tests.proofs.cabinet.boards.BoardEdition.number.Goals as goal

pub returns-clause-shown : goal.returns-clause-shown
returns-clause-shown c = board_edition c.args.self.now.number
