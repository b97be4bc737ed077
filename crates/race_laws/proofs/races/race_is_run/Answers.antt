use Rattle.race_laws.proofs.PlainRaces.{race_is_run}
use Rattle.race_laws.proofs.OutsideRuns.{read_race_is_run}
use Rattle.race_laws.proofs.races.race_is_run.Goals as goal

pub returns-clause-named : goal.returns-clause-named
returns-clause-named c = race_is_run

pub returns-clause-read : goal.returns-clause-read
returns-clause-read c = read_race_is_run
