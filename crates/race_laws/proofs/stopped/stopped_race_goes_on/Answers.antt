use Rattle.race_laws.proofs.StoppedEnds.{stopped_race_goes_on}
use Rattle.race_laws.proofs.stopped.stopped_race_goes_on.Goals as goal

pub returns : goal.returns
returns c = stopped_race_goes_on
