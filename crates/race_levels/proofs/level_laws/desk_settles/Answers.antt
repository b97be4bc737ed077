use Rattle.race_levels.proofs.SettlingLaws.{desk_settles}
use Rattle.race_levels.proofs.level_laws.desk_settles.Goals as goal

pub returns : goal.returns
returns c = desk_settles
