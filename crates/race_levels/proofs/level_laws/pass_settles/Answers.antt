use Rattle.race_levels.proofs.SettlingLaws.{pass_settles}
use Rattle.race_levels.proofs.level_laws.pass_settles.Goals as goal

pub returns : goal.returns
returns c = pass_settles
