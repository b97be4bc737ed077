use Rattle.machine_tests.proofs.BoardLaws.{board_edition}
use Rattle.machine_tests.proofs.cabinet.boards.BoardEdition.place_of.Goals as goal

pub returns-then-region-eq0-clause-shown : goal.returns-then-region-eq0-clause-shown
returns-then-region-eq0-clause-shown c = board_edition c.args.self.now.number

pub returns-clause-shown : goal.returns-clause-shown
returns-clause-shown c = board_edition c.args.self.now.number
