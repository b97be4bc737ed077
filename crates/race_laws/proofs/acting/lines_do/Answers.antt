use Rattle.race_laws.proofs.ActingLaws.{lines_do}
use Rattle.race_laws.proofs.acting.lines_do.Goals as goal

pub returns : goal.returns
returns c = lines_do
