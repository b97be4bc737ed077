use Rattle.race_lines.proofs.SaidLaws.{lines_go_by_answers}
use Rattle.race_lines.proofs.laws.lines_go_by_answers.Goals as goal

pub returns : goal.returns
returns c = lines_go_by_answers
