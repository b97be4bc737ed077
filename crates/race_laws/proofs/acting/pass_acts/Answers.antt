use Rattle.race_laws.proofs.ActingLaws.{pass_acts}
use Rattle.race_laws.proofs.acting.pass_acts.Goals as goal

pub returns : goal.returns
returns c = pass_acts
