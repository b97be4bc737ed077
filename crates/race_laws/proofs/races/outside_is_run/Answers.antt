use Rattle.race_laws.proofs.OutsideRuns.{outside_is_run}
use Rattle.race_laws.proofs.races.outside_is_run.Goals as goal

pub returns : goal.returns
returns c = outside_is_run
