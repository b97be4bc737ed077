use Rattle.race_levels.proofs.StepLaws.{pass_lines_step}
use Rattle.race_levels.proofs.step_laws.pass_lines_step.Goals as goal

pub returns : goal.returns
returns c = pass_lines_step
