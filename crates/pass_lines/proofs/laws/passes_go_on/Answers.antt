use Rattle.pass_lines.proofs.DoneLaws.{passes_go_on}
use Rattle.pass_lines.proofs.laws.passes_go_on.Goals as goal

pub returns : goal.returns
returns c = passes_go_on
