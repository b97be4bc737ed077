use Rattle.race_laws.proofs.StoppedEnds.{race_goes_on}
use Rattle.race_laws.proofs.stopped.race_goes_on.Goals as goal

pub returns : goal.returns
returns c = race_goes_on
