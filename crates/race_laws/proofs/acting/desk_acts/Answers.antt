use Rattle.race_laws.proofs.ActingLaws.{desk_acts}
use Rattle.race_laws.proofs.acting.desk_acts.Goals as goal

pub returns : goal.returns
returns c = desk_acts
