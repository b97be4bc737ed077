use Rattle.pass_lines.proofs.DoneLaws.{lines_are_done}
use Rattle.pass_lines.proofs.laws.lines_are_done.Goals as goal

pub returns : goal.returns
returns c = lines_are_done
