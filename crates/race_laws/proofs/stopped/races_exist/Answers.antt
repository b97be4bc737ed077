use Rattle.race_laws.proofs.StoppedEnds.{races_exist}
use Rattle.race_laws.proofs.stopped.races_exist.Goals as goal

pub returns : goal.returns
returns c = races_exist
