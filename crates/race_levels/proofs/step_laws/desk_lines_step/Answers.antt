use Rattle.race_levels.proofs.StepLaws.{desk_lines_step}
use Rattle.race_levels.proofs.step_laws.desk_lines_step.Goals as goal

pub returns : goal.returns
returns c = desk_lines_step
