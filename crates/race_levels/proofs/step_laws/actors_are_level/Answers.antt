use Rattle.race_levels.proofs.LevelLaws.{actors_are_level}
use Rattle.race_levels.proofs.step_laws.actors_are_level.Goals as goal

pub returns : goal.returns
returns c = actors_are_level
