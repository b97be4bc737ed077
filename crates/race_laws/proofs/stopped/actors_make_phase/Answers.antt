use Rattle.race_laws.proofs.StoppedEnds.{actors_make_phase}
use Rattle.race_laws.proofs.stopped.actors_make_phase.Goals as goal

pub returns : goal.returns
returns c = actors_make_phase
