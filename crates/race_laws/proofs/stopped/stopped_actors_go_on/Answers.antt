use Rattle.race_laws.proofs.StoppedEnds.{stopped_actors_go_on}
use Rattle.race_laws.proofs.stopped.stopped_actors_go_on.Goals as goal

pub returns : goal.returns
returns c = stopped_actors_go_on
