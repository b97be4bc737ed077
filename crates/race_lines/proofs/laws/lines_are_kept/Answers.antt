use Rattle.race_lines.proofs.SaidLaws.{lines_are_kept}
use Rattle.race_lines.proofs.laws.lines_are_kept.Goals as goal

pub returns : goal.returns
returns c = lines_are_kept
